use Rattle.std.proofs.Common.{◌-◌, ◌≤◌}
use Rattle.break_core.proofs.neighbours.number_of_state.Given as goal

abbrev pub invariant-loop-index : goal.invariant-loop-index
invariant-loop-index l = l.fn.from ≤ l.index

abbrev pub decreases-loop-index : goal.decreases-loop-index
decreases-loop-index l = l.end - l.index
