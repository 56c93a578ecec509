-- The loop of `free_nodes`: the slots passed are free, and the others are as they were.
use Rattle.std.proofs.Common.{◌≡◌, length, take, drop}
use Rattle.node_core.specs.Nodes.{IsPlain}
use Rattle.node_core.proofs.slots.free_nodes.Given as goal

abbrev pub invariant-loop-index : goal.invariant-loop-index
invariant-loop-index l = record {
  free : IsPlain (take l.index l.nodes.items);
  others : drop l.index l.nodes.items ≡ drop l.index l.initial.nodes.items;
  length : length l.nodes.items ≡ length l.initial.nodes.items;
}
