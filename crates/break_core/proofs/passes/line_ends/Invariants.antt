use Rattle.std.proofs.Common.{◌≡◌, map, take}
use Rattle.break_core.specs.Passes.{line_end_at}
use Rattle.break_core.proofs.passes.line_ends.Given as goal

abbrev pub invariant-loop-end : goal.invariant-loop-end
invariant-loop-end g l = l.lines.items ≡ map (line_end_at (g.M.Meter.facts l.meter)) (take l.end-index l.ends)
