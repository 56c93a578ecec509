use Rattle.tfm_core.proofs.LawLemmas.{ligature-there}
use Rattle.tfm_core.proofs.laws.ligatures_are_there.Goals as goal

pub returns : goal.returns
returns c = ligature-there
