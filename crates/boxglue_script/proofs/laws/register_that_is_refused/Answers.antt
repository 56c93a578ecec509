-- The known script, computed by the definitions.
use Rattle.boxglue_script.proofs.RowLaws.{no_such_register_named}
use Rattle.boxglue_script.proofs.laws.register_that_is_refused.Goals as goal

pub returns : goal.returns
returns c = no_such_register_named
