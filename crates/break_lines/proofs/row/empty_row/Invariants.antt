use Rattle.std.proofs.Common.{◌≡◌, replicate, None}
use Rattle.break_lines.proofs.row.empty_row.Given as goal

abbrev pub invariant-loop : goal.invariant-loop
invariant-loop l = l.row.items ≡ replicate l.counter None
