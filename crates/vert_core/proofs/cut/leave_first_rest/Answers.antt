use Rattle.std.proofs.Common.{◌≡◌, ◌∙◌, ◌∷◌, drop, ap}
use Rattle.node_core.specs.declared.tree.Node.TheVariants as nodes
use Rattle.node_core.specs.Items.{Items}
use Rattle.node_core.specs.Nodes.{items_of, nodes_of}
use Rattle.pack_core.specs.Boxes.{packed_of}
use Rattle.vert_core.specs.declared.tails.Tails.{Tails}
use Rattle.vert_core.specs.Tails.{MeasureEnds}
use Rattle.vert_core.proofs.Ends.{ok-of, rest-tails}
use Rattle.vert_core.proofs.cut.leave_first_rest.Goals as goal

pub returns-in-Ok-move_front-clause-tails : goal.returns-in-Ok-move_front-clause-tails
returns-in-Ok-move_front-clause-tails c =
    let start = c.args.rest.now.start in
    let glue = c.args.glue in
    let shell = c.args.rest.now.shell in
    let moved : c.in-Ok-move_front.parts.rest ≡ packed_of (items_of (nodes.Glue glue ∷ drop start (nodes_of c.find_tails-list.result.0))) shell = c.in-Ok-move_front.ensures.rest_part in
    rest-tails (nodes_of c.args.list) start glue shell c.in-Ok.tails c.in-Ok-move_front.parts.rest
    (moved ∙ ap (λ (xs : Items). packed_of (items_of (nodes.Glue glue ∷ drop start (nodes_of xs))) shell) c.find_tails-list.ensures.same)
    (ok-of (λ (tails : Tails). MeasureEnds tails.entries.items (drop start (nodes_of c.args.list))) c.find_tails-list.result.1 c.in-Ok.tails c.in-Ok.is c.find_tails-list.ensures.tails)
    c.requires.finite
