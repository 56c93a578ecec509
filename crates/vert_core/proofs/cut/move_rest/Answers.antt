use Rattle.std.proofs.Common.{◌∙◌, ap}
use Rattle.node_core.specs.Nodes.{items_of}
use Rattle.node_core.proofs.NodeLemmas.{items_of-nodes_of}
use Rattle.vert_core.proofs.cut.move_rest.Goals as goal

pub returns-in-Err-clause-list_returned : goal.returns-in-Err-clause-list_returned
returns-in-Err-clause-list_returned c = c.from_vec.ensures.items ∙ ap items_of (c.in-Err.ensures.err ∙ c.into_vec-nodes.ensures) ∙ items_of-nodes_of c.args.list
