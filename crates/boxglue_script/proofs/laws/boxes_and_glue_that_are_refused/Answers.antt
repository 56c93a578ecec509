-- The known script, computed by the definitions.
use Rattle.boxglue_script.proofs.RowLaws.{no_register_named, late_stretch_named}
use Rattle.boxglue_script.proofs.laws.boxes_and_glue_that_are_refused.Goals as goal

pub returns-clause-register : goal.returns-clause-register
returns-clause-register c = no_register_named

pub returns-clause-stretch : goal.returns-clause-stretch
returns-clause-stretch c = late_stretch_named
