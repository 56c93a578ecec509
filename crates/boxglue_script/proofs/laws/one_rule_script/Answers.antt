-- The known script, computed by the definitions.
use Rattle.boxglue_script.proofs.RowLaws.{one_rule_said}
use Rattle.boxglue_script.proofs.laws.one_rule_script.Goals as goal

pub returns : goal.returns
returns c = one_rule_said
