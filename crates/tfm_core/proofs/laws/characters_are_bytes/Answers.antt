use Rattle.tfm_core.proofs.ByteLemmas.{byte-glyph_of}
use Rattle.tfm_core.proofs.laws.characters_are_bytes.Goals as goal

pub returns : goal.returns
returns c = byte-glyph_of
