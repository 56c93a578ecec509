-- The loop of `count`: the count of the nodes passed, plus one for each node that follows, or `u64::MAX` if that is greater.
use Rattle.std.proofs.Common.{◌≡◌, ◌+◌, ◌-◌, length, min, take}
use Rattle.node_core.specs.Items.{items_count}
use Rattle.node_core.specs.Nodes.{items_of}
use Rattle.node_core.proofs.tree.NodeList.+count.Given as goal

abbrev pub decreases-count : goal.decreases-count
decreases-count l = goal.size-count l

abbrev pub invariant-loop-node : goal.invariant-loop-node
invariant-loop-node l =
    l.count ≡ min (items_count (items_of (take l.node-index l.node-items)) + (length l.node-items - l.node-index)) 18446744073709551615
