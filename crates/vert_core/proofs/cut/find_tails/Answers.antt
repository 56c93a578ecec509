use Rattle.std.proofs.Common.{◌∙◌, ap}
use Rattle.node_core.specs.Nodes.{items_of}
use Rattle.node_core.proofs.NodeLemmas.{items_of-nodes_of}
use Rattle.vert_core.proofs.cut.find_tails.Goals as goal

pub returns-clause-same : goal.returns-clause-same
returns-clause-same c = c.from_vec.ensures.items ∙ ap items_of c.into_vec-nodes.ensures ∙ items_of-nodes_of c.args.list
