use Rattle.std.proofs.Common.{◌∙◌, ◌++◌, ap, arith}
use Rattle.std.specs.Option.{option_to_list}
use Rattle.node_core.specs.Nodes.{items_of}
use Rattle.node_core.specs.declared.tree.Node.{Node}
use Rattle.std.specs.Prelude.{List}
use Rattle.node_core.proofs.NodeLemmas.{nodes_of-items_of}
use Rattle.node_core.proofs.FreeSlots.{count_after_slots, nodes_behind}
use Rattle.std.proofs.Common.{refl}
use Rattle.node_core.proofs.tree.NodeList.replace_front.Goals as goal

pub overflow_add-first : goal.overflow_add-first
overflow_add-first c = omega (arith, count_after_slots c.self.inside.first c.self.inside.nodes.items c.args.self.now c.self.view_is c.self.invariant.1)

pub replace_nodes-requires-clause-end_bounded : goal.replace_nodes-requires-clause-end_bounded
replace_nodes-requires-clause-end_bounded c =
    omega (arith, count_after_slots c.self.inside.first c.self.inside.nodes.items c.args.self.now c.self.view_is c.self.invariant.1)

pub overflow_cast-self : goal.overflow_cast-self
overflow_cast-self c =
    omega (arith, count_after_slots c.self.inside.first c.self.inside.nodes.items c.args.self.now c.self.view_is c.self.invariant.1, c.replace_nodes.ensures.free_bounded)

pub invariant_of-self : goal.invariant_of-self
invariant_of-self c =
    let within = count_after_slots c.self.inside.first c.self.inside.nodes.items c.args.self.now c.self.view_is c.self.invariant.1 in
    let long = c.replace_nodes.ensures.length in
    (omega (arith, long, c.self.invariant.0), omega (arith, within, long, c.replace_nodes.ensures.free_bounded), c.replace_nodes.ensures.free, λ is. absurd (cc))

pub returns-clause-items : goal.returns-clause-items
returns-clause-items c =
    let old = c.self.inside.nodes.items in
    let behind = nodes_behind c.self.inside.first c.args.count old old c.args.self.now c.self.view_is refl in
    ap items_of (c.replace_nodes.ensures.kept ∙ ap (λ (rest : List Node). option_to_list c.args.node ++ rest) behind)

pub returns-clause-nodes : goal.returns-clause-nodes
returns-clause-nodes c =
    let old = c.self.inside.nodes.items in
    let behind = nodes_behind c.self.inside.first c.args.count old old c.args.self.now c.self.view_is refl in
    nodes_of-items_of _ ∙ c.replace_nodes.ensures.kept ∙ ap (λ (rest : List Node). option_to_list c.args.node ++ rest) behind
