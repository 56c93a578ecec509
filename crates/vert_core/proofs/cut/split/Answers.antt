use Rattle.std.proofs.Common.{◌∙◌}
use Rattle.vert_core.proofs.Rests.{front-planned, rest-planned}
use Rattle.vert_core.proofs.cut.split.Goals as goal

pub returns-in-Ok-split_copy-clause-front : goal.returns-in-Ok-split_copy-clause-front
returns-in-Ok-split_copy-clause-front c =
    c.in-Ok-split_copy.ensures.front
    ∙ front-planned c.args.params.now c.args.height c.args.nodes.now c.in-Ok.plan.place c.in-Ok.plan.front c.in-Ok.ensures.place c.in-Ok.ensures.front

pub returns-in-Ok-split_copy-clause-rest_part : goal.returns-in-Ok-split_copy-clause-rest_part
returns-in-Ok-split_copy-clause-rest_part c =
    c.in-Ok-split_copy.ensures.rest_part
    ∙ rest-planned c.args.params.now c.args.height c.args.nodes.now c.in-Ok.plan.rest c.in-Ok.ensures.rest_planned c.in-Ok.ensures.sound.inside c.in-Ok.ensures.shell
