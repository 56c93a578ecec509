use Rattle.boxglue_script.proofs.OneCause.{one_line_cause}
use Rattle.boxglue_script.proofs.laws.a_line_has_one_cause.Goals as goal

pub returns : goal.returns
returns c = one_line_cause
