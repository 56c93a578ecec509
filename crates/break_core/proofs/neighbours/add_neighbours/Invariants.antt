use Rattle.std.proofs.Common.{◌+◌, ◌-◌, length}
use Rattle.break_core.specs.Private.Near.{HaveNeighbours}
use Rattle.break_core.proofs.neighbours.add_neighbours.Given as goal

abbrev pub invariant-loop-group : goal.invariant-loop-group
invariant-loop-group l = record { known : HaveNeighbours l.table l.list.items }

abbrev pub decreases-loop-group : goal.decreases-loop-group
decreases-loop-group l = l.group.place + 1 - length l.list.items
