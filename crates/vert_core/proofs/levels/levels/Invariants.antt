use Rattle.std.proofs.Common.{◌≡◌, min, take}
use Rattle.node_core.specs.Items.{items_depth}
use Rattle.node_core.specs.Nodes.{items_of}
use Rattle.vert_core.proofs.levels.levels.Given as goal

abbrev pub invariant-loop-node : goal.invariant-loop-node
invariant-loop-node l = l.deepest ≡ min (items_depth (items_of (take l.node-index l.nodes))) 18446744073709551615
