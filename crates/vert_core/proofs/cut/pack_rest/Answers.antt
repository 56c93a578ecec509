use Rattle.std.proofs.Common.{List, length, ap, arith}
use Rattle.node_core.specs.declared.tree.Node.{Node}
use Rattle.vert_core.proofs.Rests.{rest-shorter}
use Rattle.vert_core.proofs.cut.pack_rest.Goals as goal

pub from_vec-requires : goal.from_vec-requires
from_vec-requires c =
    omega (arith, c.requires.list_bounded, ap (λ (xs : List Node). length xs) c.in_ok-left.ensures.items_returned, rest-shorter c.args.rest.now c.args.nodes.now.items c.requires.inside)
