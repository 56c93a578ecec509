use Rattle.std.proofs.Common.{◌≡◌, ◌+◌, ◌-◌, ◌++◌, ◌<◌, ◌≤◌, drop, length, take, vec_capacity}
use Rattle.shape_core.specs.Private.Fronts.{front_of}
use Rattle.shape_core.specs.Shaping.{items_from, missing_from, shaped_items, shaped_missing}
use Rattle.shape_core.proofs.word.shape_front.Given as goal

-- The appended items and those of the rest of the word make up the items of the word; fewer characters are missing than were looked at; the nodes
-- from before the call come first; and the vector has at least the space that it had.
abbrev pub invariant-loop-following : goal.invariant-loop-following
invariant-loop-following g l = record {
  some : 0 < l.index;
  within : l.index ≤ length (front_of l.until_space l.text);
  items : l.initial.nodes.items ++ shaped_items l.slot (g.M.Metrics.sizes l.metrics) (g.M.Metrics.steps l.metrics) (front_of l.until_space l.text)
      ≡ l.nodes.items ++ items_from l.slot (g.M.Metrics.sizes l.metrics) (g.M.Metrics.steps l.metrics) l.code (drop l.index (front_of l.until_space l.text));
  number : shaped_missing (g.M.Metrics.sizes l.metrics) (g.M.Metrics.steps l.metrics) (front_of l.until_space l.text)
      ≡ l.missing + missing_from (g.M.Metrics.sizes l.metrics) (g.M.Metrics.steps l.metrics) l.code (drop l.index (front_of l.until_space l.text));
  front : take (length l.initial.nodes.items) l.nodes.items ≡ l.initial.nodes.items;
  few : l.missing < l.index;
  capacity : vec_capacity l.initial.nodes ≤ vec_capacity l.nodes;
}

-- Fewer characters are left.
abbrev pub decreases-loop-following : goal.decreases-loop-following
decreases-loop-following g l = length (front_of l.until_space l.text) - l.index
