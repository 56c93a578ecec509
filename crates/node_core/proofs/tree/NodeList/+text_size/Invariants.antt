-- The loop of `text_size`: the size of the texts of the nodes passed, or `u64::MAX` if it is greater.
use Rattle.std.proofs.Common.{◌≡◌, min, take}
use Rattle.node_core.specs.Items.{items_text}
use Rattle.node_core.specs.Nodes.{items_of}
use Rattle.node_core.proofs.tree.NodeList.+text_size.Given as goal

abbrev pub decreases-text_size : goal.decreases-text_size
decreases-text_size l = goal.size-text_size l

abbrev pub invariant-loop-node : goal.invariant-loop-node
invariant-loop-node l = l.size ≡ min (items_text (items_of (take l.node-index l.node-items))) 18446744073709551615
