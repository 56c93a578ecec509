use Rattle.std.proofs.Common.{◌∙◌}
use Rattle.vert_core.proofs.Rests.{taken}
use Rattle.vert_core.proofs.rest.take_rest.Goals as goal

pub returns-clause-items_returned : goal.returns-clause-items_returned
returns-clause-items_returned c = c.prune_top.ensures ∙ taken c.args.nodes.now.items c.in_ok-left.left.items c.args.rest.now c.in_ok-left.ensures.tail c.requires
