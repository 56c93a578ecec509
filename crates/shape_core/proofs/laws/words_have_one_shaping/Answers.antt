use Rattle.shape_core.proofs.ShapingLemmas.{Shaping-is}
use Rattle.shape_core.proofs.laws.words_have_one_shaping.Goals as goal

pub returns : goal.returns
returns c = Shaping-is
