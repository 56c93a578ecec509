use Rattle.scaled_core.proofs.TextLaws.{dimension_value-from_text, IsDimensionText-from_value}
use Rattle.scaled_core.proofs.laws.value_of_a_text.Goals as goal

pub returns : goal.returns
returns c = λ text value. (dimension_value-from_text text value, IsDimensionText-from_value text value)
