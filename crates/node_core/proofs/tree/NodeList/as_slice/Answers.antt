use Rattle.std.proofs.Common.{◌∙◌, sym, arith, drop}
use Rattle.std.proofs.lemmas.List.{length-drop, take_all}
use Rattle.node_core.proofs.FreeSlots.{nodes_after_slots, count_after_slots}
use Rattle.node_core.proofs.tree.NodeList.as_slice.Goals as goal

pub returns-clause-nodes : goal.returns-clause-nodes
returns-clause-nodes c =
    let nodes = c.self.inside.nodes.items in
    let first = c.self.inside.first in
    rw c.deref.ensures.value (take_all _ (drop first nodes) (omega (arith, length-drop first nodes)) ∙ sym (nodes_after_slots first nodes c.args.self.now c.self.view_is))

pub returns-clause-list_bounded : goal.returns-clause-list_bounded
returns-clause-list_bounded c =
    omega (arith, count_after_slots c.self.inside.first c.self.inside.nodes.items c.args.self.now c.self.view_is c.self.invariant.1)
