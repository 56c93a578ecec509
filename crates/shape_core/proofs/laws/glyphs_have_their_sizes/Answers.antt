use Rattle.shape_core.proofs.GlyphLemmas.{shaped_items-glyphs, text_items-glyphs}
use Rattle.shape_core.proofs.laws.glyphs_have_their_sizes.Goals as goal

pub returns : goal.returns
returns c = record { words = shaped_items-glyphs; texts = text_items-glyphs }
