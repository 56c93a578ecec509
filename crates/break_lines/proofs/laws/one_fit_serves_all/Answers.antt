use Rattle.break_lines.proofs.Widths.{after_is, both_overfull, overfull_each, size_most}
use Rattle.break_lines.proofs.laws.one_fit_serves_all.Goals as goal

pub returns-clause-after : goal.returns-clause-after
returns-clause-after c = after_is

pub returns-clause-greatest : goal.returns-clause-greatest
returns-clause-greatest c = both_overfull

pub returns-clause-each : goal.returns-clause-each
returns-clause-each c = overfull_each

pub returns-clause-most : goal.returns-clause-most
returns-clause-most c = size_most
