use Rattle.std.proofs.Common.{arith}
use Rattle.node_core.specs.Nodes.{nodes_of}
use Rattle.vert_core.proofs.Ends.{kept-tails}
use Rattle.vert_core.proofs.cut.leave_rest.Goals as goal

pub returns-in-Ok-clause-tails : goal.returns-in-Ok-clause-tails
returns-in-Ok-clause-tails c =
    kept-tails (nodes_of c.args.list) c.args.rest.now.start c.args.glue c.args.rest.now.shell c.args.tails c.in-Ok.parts.rest c.in-Ok.ensures.rest_part
    (omega (arith, c.requires.after)) c.requires.known
