use Rattle.std.proofs.Common.{◌≡◌, ◌≤◌, ◌+◌, ◌++◌, map, reverse, vec_len, vec_capacity}
use Rattle.vert_core.specs.Private.Planned.{copied_line}
use Rattle.vert_core.proofs.filling.copy_items.Given as goal

abbrev pub invariant-loop-line : goal.invariant-loop-line
invariant-loop-line l = record {
  copied : map (copied_line l.nodes) l.lines.items ++ reverse l.filled.items ≡ map (copied_line l.nodes) l.fn.lines.items;
  space : vec_len l.filled + vec_len l.lines ≤ vec_capacity l.filled;
}

abbrev pub decreases-loop-line : goal.decreases-loop-line
decreases-loop-line l = vec_len l.lines
