use Rattle.std.proofs.Common.{pos, ◌≡◌, ◌-◌, ◌<◌, length, get_or, map, drop, false}
use Rattle.dvi_ops.specs.View.{body_view}
use Rattle.dvi_ops.specs.declared.body_op.BodyOp.TheVariants as ops
use Rattle.move_core.specs.Private.Passes.{has_empty_group, is_push}
use Rattle.move_core.proofs.passes.has_empty_group.Given as goal

abbrev pub invariant-loop-index : goal.invariant-loop-index
invariant-loop-index l =
    0 < length l.ops → has_empty_group (is_push (body_view (get_or l.ops (l.index - 1) (ops.SetChar (pos 0))))) (map body_view (drop l.index l.ops))
    ≡ has_empty_group false (map body_view l.ops)
