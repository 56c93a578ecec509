use Rattle.scaled_core.proofs.PrintedTexts.{dimension_value-printed, read_dimension-printed}
use Rattle.scaled_core.proofs.TextLaws.{IsDimensionText-from_value}
use Rattle.scaled_core.proofs.laws.printed_reads_back.Goals as goal

pub returns-clause-text : goal.returns-clause-text
returns-clause-text c = λ d fits. IsDimensionText-from_value _ d (dimension_value-printed d fits)

pub returns-clause-read : goal.returns-clause-read
returns-clause-read c = read_dimension-printed
