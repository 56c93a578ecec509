-- The known script, computed by the definitions.
use Rattle.boxglue_script.proofs.RowLaws.{text_script_said}
use Rattle.boxglue_script.proofs.laws.text_script.Goals as goal

pub returns : goal.returns
returns c = text_script_said
