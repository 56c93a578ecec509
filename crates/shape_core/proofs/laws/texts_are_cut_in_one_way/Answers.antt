use Rattle.shape_core.proofs.CutLemmas.{HasParts-is}
use Rattle.shape_core.proofs.laws.texts_are_cut_in_one_way.Goals as goal

pub returns : goal.returns
returns c = HasParts-is
