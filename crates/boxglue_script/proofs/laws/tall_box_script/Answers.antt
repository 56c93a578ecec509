-- The known script, computed by the definitions.
use Rattle.boxglue_script.proofs.RowLaws.{tall_box_said}
use Rattle.boxglue_script.proofs.laws.tall_box_script.Goals as goal

pub returns : goal.returns
returns c = tall_box_said
