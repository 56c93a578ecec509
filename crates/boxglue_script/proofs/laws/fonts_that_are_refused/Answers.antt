-- The known script, computed by the definitions.
use Rattle.boxglue_script.proofs.RowLaws.{no_size_named, slash_named}
use Rattle.boxglue_script.proofs.laws.fonts_that_are_refused.Goals as goal

pub returns-clause-size : goal.returns-clause-size
returns-clause-size c = no_size_named

pub returns-clause-name : goal.returns-clause-name
returns-clause-name c = slash_named
