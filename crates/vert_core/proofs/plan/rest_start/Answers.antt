use Rattle.std.proofs.Common.{◌∙◌, sym}
use Rattle.vert_core.proofs.Rests.{rest-here}
use Rattle.vert_core.proofs.plan.rest_start.Goals as goal

pub returns-then-is_box_or_rule-clause-value : goal.returns-then-is_box_or_rule-clause-value
returns-then-is_box_or_rule-clause-value c =
    sym (rest-here c.args.nodes.now c.loop-start.start c.index-nodes-start.result c.loop-start-test.true c.index-nodes-start.is (sym c.is_box_or_rule.ensures ∙ c.if-is_box_or_rule.true))
    ∙ c.loop-start.invariant.rest
