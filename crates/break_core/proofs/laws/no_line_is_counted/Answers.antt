use Rattle.std.proofs.Common.{ap}
use Rattle.break_lines.specs.Costs.{line_fit, admitted_line}
use Rattle.break_lines.proofs.Widths.{size_none}
use Rattle.break_core.proofs.laws.no_line_is_counted.Goals as goal

pub returns-clause-cut : goal.returns-clause-cut
returns-clause-cut c = λ facts params bound none. none

pub returns-clause-line : goal.returns-clause-line
returns-clause-line c = λ facts params bound before place none.
    ap (λ size. admitted_line params bound (facts.penalty place) before.class (line_fit (facts.sums before.place place) size)) (size_none params before.lines none)
