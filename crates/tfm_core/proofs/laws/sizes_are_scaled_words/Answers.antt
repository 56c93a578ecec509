use Rattle.tfm_core.proofs.LawLemmas.{glyph_of-font_at}
use Rattle.tfm_core.proofs.laws.sizes_are_scaled_words.Goals as goal

pub returns : goal.returns
returns c = glyph_of-font_at
