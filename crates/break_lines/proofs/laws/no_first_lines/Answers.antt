use Rattle.break_lines.proofs.Widths.{size_none, greatest_none}
use Rattle.break_lines.proofs.laws.no_first_lines.Goals as goal

pub returns-clause-size : goal.returns-clause-size
returns-clause-size c = size_none

pub returns-clause-greatest : goal.returns-clause-greatest
returns-clause-greatest c = greatest_none
