-- The known text, computed by the definitions.
use Rattle.boxglue_program.proofs.RowLaws.{one_rule_written}
use Rattle.boxglue_program.proofs.laws.one_rule_answers.Goals as goal

pub returns : goal.returns
returns c = one_rule_written
