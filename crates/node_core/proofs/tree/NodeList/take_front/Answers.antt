use Rattle.std.proofs.Common.{◌∙◌, drop, ap, arith}
use Rattle.std.proofs.lemmas.List.{drop-drop}
use Rattle.node_core.specs.Nodes.{items_of}
use Rattle.node_core.proofs.NodeLemmas.{nodes_of-items_of}
use Rattle.node_core.proofs.FreeSlots.{count_after_slots, nodes_behind, plain_drop}
use Rattle.node_core.proofs.tree.NodeList.take_front.Goals as goal

pub overflow_add-end : goal.overflow_add-end
overflow_add-end c = omega (arith, count_after_slots c.self.inside.first c.self.inside.nodes.items c.args.self.now c.self.view_is c.self.invariant.1)

pub take_nodes-requires-clause-end_bounded : goal.take_nodes-requires-clause-end_bounded
take_nodes-requires-clause-end_bounded c =
    omega (arith, count_after_slots c.self.inside.first c.self.inside.nodes.items c.args.self.now c.self.view_is c.self.invariant.1)

pub overflow_cast-self : goal.overflow_cast-self
overflow_cast-self c = omega (arith, count_after_slots c.self.inside.first c.self.inside.nodes.items c.args.self.now c.self.view_is c.self.invariant.1)

pub invariant_of-self-2 : goal.invariant_of-self-2
invariant_of-self-2 c =
    let old = c.self.inside.nodes.items in
    let first = c.self.inside.first in
    let count = c.args.count in
    let long = c.in_ok-front.ensures.length in
    let within = count_after_slots first old c.args.self.now c.self.view_is c.self.invariant.1 in (
      omega (arith, long, c.self.invariant.0),
      omega (arith, long, within),
      c.in_ok-front.ensures.free,
      λ plain. rw (c.in_ok-front.ensures.others, ← drop-drop count first old) (plain_drop count (drop first old) (c.self.invariant.3 plain)),
    )

pub returns-clause-ok : goal.returns-clause-ok
returns-clause-ok c =
    ap items_of (nodes_behind c.self.inside.first c.args.count c.self.inside.nodes.items c.take_nodes.new.nodes.items c.args.self.now c.self.view_is c.in_ok-front.ensures.others)

pub returns-clause-nodes : goal.returns-clause-nodes
returns-clause-nodes c =
    nodes_of-items_of _ ∙ nodes_behind c.self.inside.first c.args.count c.self.inside.nodes.items c.take_nodes.new.nodes.items c.args.self.now c.self.view_is c.in_ok-front.ensures.others
