-- The known script, computed by the definitions.
use Rattle.boxglue_script.proofs.RowLaws.{special_script_said}
use Rattle.boxglue_script.proofs.laws.special_script.Goals as goal

pub returns : goal.returns
returns c = special_script_said
