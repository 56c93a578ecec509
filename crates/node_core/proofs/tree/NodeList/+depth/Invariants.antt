-- The loop of `depth`: the depth to which boxes nest in the nodes passed, or `u64::MAX` if it is greater.
use Rattle.std.proofs.Common.{◌≡◌, min, take}
use Rattle.node_core.specs.Items.{items_depth}
use Rattle.node_core.specs.Nodes.{items_of}
use Rattle.node_core.proofs.tree.NodeList.+depth.Given as goal

abbrev pub decreases-depth : goal.decreases-depth
decreases-depth l = goal.size-depth l

abbrev pub invariant-loop-node : goal.invariant-loop-node
invariant-loop-node l = l.deepest ≡ min (items_depth (items_of (take l.node-index l.node-items))) 18446744073709551615
