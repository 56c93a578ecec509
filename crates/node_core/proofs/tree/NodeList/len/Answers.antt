use Rattle.std.proofs.Common.{arith}
use Rattle.node_core.proofs.FreeSlots.{count_after_slots}
use Rattle.node_core.proofs.tree.NodeList.len.Goals as goal

pub returns-clause-count : goal.returns-clause-count
returns-clause-count c =
    omega (arith, count_after_slots c.self.inside.first c.self.inside.nodes.items c.args.self.now c.self.view_is c.self.invariant.1)

pub returns-clause-list_bounded : goal.returns-clause-list_bounded
returns-clause-list_bounded c =
    omega (arith, count_after_slots c.self.inside.first c.self.inside.nodes.items c.args.self.now c.self.view_is c.self.invariant.1)
