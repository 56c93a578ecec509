use Rattle.std.proofs.Common.{◌≡◌, take}
use Rattle.node_core.specs.Nodes.{nodes_of}
use Rattle.pack_core.specs.Cursors.{sums_after}
use Rattle.pack_core.proofs.places.offset.Given as goal

abbrev pub invariant-loop-node : goal.invariant-loop-node
invariant-loop-node l = record {
  items : l.node-items ≡ take l.i (nodes_of l.b.list);
  at : l.cursor ≡ sums_after l.b.kind l.b.setting (take l.node-index l.node-items);
}
