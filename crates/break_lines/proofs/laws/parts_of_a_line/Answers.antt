use Rattle.break_lines.proofs.Parts.{parts}
use Rattle.break_lines.proofs.laws.parts_of_a_line.Goals as goal

pub returns : goal.returns
returns c = parts
