use Rattle.std.proofs.Common.{◌∙◌, refl, ap, arith}
use Rattle.node_core.specs.Nodes.{items_of}
use Rattle.node_core.proofs.NodeLemmas.{one_more_fits}
use Rattle.node_core.proofs.tree.NodeList.push_box.Goals as goal

pub invariant_of-self : goal.invariant_of-self
invariant_of-self c =
    let is = ap items_of c.drop_free_slots.ensures.nodes ∙ c.self.view_is in
    rw c.drop_free_slots.ensures.first
    (one_more_fits _ _ _ _ _ is c.requires.list_bounded c.push_box.ensures.ok c.push_box.ensures.err, omega arith, refl, λ is. absurd (cc))
