use Rattle.std.proofs.Common.{◌≡◌, ◌≤◌, ◌++◌, reverse, flat_map, vec_len, vec_capacity}
use Rattle.vert_core.specs.Private.Planned.{items_in}
use Rattle.vert_core.proofs.filling.rejoin.Given as goal

-- What is back and what is still in lines make the whole, for which there is space.
abbrev pub invariant-loop-line : goal.invariant-loop-line
invariant-loop-line l = record {
  whole : l.nodes.items ++ flat_map items_in (reverse l.lines.items) ≡ l.fn.nodes.items ++ flat_map items_in (reverse l.fn.lines.items);
  capacity : vec_capacity l.fn.nodes ≤ vec_capacity l.nodes;
}

abbrev pub decreases-loop-line : goal.decreases-loop-line
decreases-loop-line l = vec_len l.lines
