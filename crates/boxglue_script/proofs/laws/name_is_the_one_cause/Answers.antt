use Rattle.boxglue_script.proofs.OneCause.{name_alone}
use Rattle.boxglue_script.proofs.laws.name_is_the_one_cause.Goals as goal

pub returns : goal.returns
returns c = name_alone
