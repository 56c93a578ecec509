use Rattle.std.proofs.Common.{refl, arith}
use Rattle.node_core.proofs.tree.NodeList.with_plainness.Goals as goal

pub invariant_of-result : goal.invariant_of-result
invariant_of-result c = (c.requires.list_bounded, omega arith, refl, c.requires.plain)
