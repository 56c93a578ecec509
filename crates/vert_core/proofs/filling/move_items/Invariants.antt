use Rattle.std.proofs.Common.{◌≡◌, ◌≤◌, ◌+◌, vec_len, vec_capacity}
use Rattle.vert_core.proofs.Filled.{IsMoving}
use Rattle.vert_core.proofs.filling.move_items.Given as goal

abbrev pub invariant-loop-line : goal.invariant-loop-line
invariant-loop-line l = record {
  moving : IsMoving l.fn.nodes.items l.fn.lines.items l.nodes.items l.lines.items l.filled.items;
  space : vec_len l.filled + vec_len l.lines ≤ vec_capacity l.filled;
  capacity : vec_capacity l.nodes ≡ vec_capacity l.fn.nodes;
}

abbrev pub decreases-loop-line : goal.decreases-loop-line
decreases-loop-line l = vec_len l.lines
