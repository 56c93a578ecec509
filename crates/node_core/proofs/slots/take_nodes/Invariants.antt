-- The loop of `take_nodes`: the nodes of the slots passed were moved, and those slots are free; the others are as they were.
use Rattle.std.proofs.Common.{◌≡◌, ◌≤◌, ◌-◌, length, take, drop}
use Rattle.std.specs.Prelude.{vec_capacity}
use Rattle.node_core.specs.Nodes.{IsPlain}
use Rattle.node_core.proofs.slots.take_nodes.Given as goal

abbrev pub invariant-loop-index : goal.invariant-loop-index
invariant-loop-index l = record {
  taken : l.taken.items ≡ take (l.index - l.first) (drop l.first l.initial.nodes.items);
  free : IsPlain (take l.index l.nodes.items);
  others : drop l.index l.nodes.items ≡ drop l.index l.initial.nodes.items;
  length : length l.nodes.items ≡ length l.initial.nodes.items;
  space : l.end - l.first ≤ vec_capacity l.taken;
}
