use Rattle.break_lines.proofs.Bounds.{hangs_over, hangs_not}
use Rattle.break_lines.proofs.laws.overfull_lines_hang_over.Goals as goal

pub returns-clause-overfull : goal.returns-clause-overfull
returns-clause-overfull c = hangs_over

pub returns-clause-others : goal.returns-clause-others
returns-clause-others c = hangs_not
