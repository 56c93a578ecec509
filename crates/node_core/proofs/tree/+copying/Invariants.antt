-- The loop of `copy`: the copied nodes are the first nodes of the list.
use Rattle.std.proofs.Common.{◌≡◌, take}
use Rattle.node_core.proofs.tree.+copying.Given as goal

abbrev pub invariant-NodeList::copy-loop-node : goal.invariant-NodeList::copy-loop-node
invariant-NodeList::copy-loop-node l = l.nodes.items ≡ take l.node-index l.node-items
