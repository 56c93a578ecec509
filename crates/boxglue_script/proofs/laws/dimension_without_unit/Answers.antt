-- The known script, computed by the definitions.
use Rattle.boxglue_script.proofs.RowLaws.{unitless_named}
use Rattle.boxglue_script.proofs.laws.dimension_without_unit.Goals as goal

pub returns : goal.returns
returns c = unitless_named
