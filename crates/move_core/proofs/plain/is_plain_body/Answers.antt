use Rattle.std.proofs.Common.{pos, ◌<◌, ◌≤◌, false, nat_eq, map, length, sym, ◌∙◌, arith}
use Rattle.dvi_ops.specs.View.{body_view}
use Rattle.dvi_ops.specs.declared.body_op.BodyOp.TheVariants as ops
use Rattle.move_core.proofs.PlainBodies.{plain_value, stops, ends}
use Rattle.move_core.proofs.plain.is_plain_body.Goals as goal

pub returns-in_default : goal.returns-in_default
returns-in_default c =
    let at : c.loop-op.op-index < length c.args.ops.now = omega arith in
    plain_value false (map body_view c.args.ops.now)
    (sym (sym c.loop-op.invariant.rest
    ∙ stops c.args.ops.now c.loop-op.op-index c.loop-op.depth (ops.SetChar (pos 0)) at (sym c.depth_after.ensures ∙ c.in_default.is)))

pub returns : goal.returns
returns c =
    let past : length c.args.ops.now ≤ c.loop-op.op-index = omega arith in
    plain_value (nat_eq c.loop-op.depth 0) (map body_view c.args.ops.now)
    (ends c.args.ops.now c.loop-op.op-index c.loop-op.depth past ∙ c.loop-op.invariant.rest)
