use Rattle.std.proofs.Common.{◌≡◌, ◌++◌, true, All, reverse, flat_map, vec_len, vec_capacity}
use Rattle.vert_core.specs.Private.Planned.{HasPlainItems, stacked_nodes}
use Rattle.vert_core.proofs.stacking.stack_lines.Given as goal

-- What is stacked and what the other lines will add make the whole, for which there is space.
abbrev pub invariant-loop-line : goal.invariant-loop-line
invariant-loop-line l = record {
  whole : l.list.items ++ flat_map stacked_nodes (reverse l.lines.items) ≡ l.fn.list.items ++ flat_map stacked_nodes (reverse l.fn.lines.items);
  capacity : vec_capacity l.list ≡ vec_capacity l.fn.list;
  plain : l.plain ≡ true → All HasPlainItems l.lines.items;
}

abbrev pub decreases-loop-line : goal.decreases-loop-line
decreases-loop-line l = vec_len l.lines
