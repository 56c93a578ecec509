use Rattle.std.proofs.Common.{pos, ◌+◌, ◌∙◌, ap, sym, map, drop, reverse, List, false}
use Rattle.dvi_ops.specs.Instruction.{Instruction}
use Rattle.dvi_ops.specs.View.{body_view}
use Rattle.dvi_ops.specs.declared.body_op.BodyOp.{BodyOp}
use Rattle.dvi_ops.specs.declared.body_op.BodyOp.TheVariants as ops
use Rattle.move_core.specs.Private.Passes.{trimmed_instructions, has_empty_group}
use Rattle.move_core.proofs.Flags.{from_here}
use Rattle.move_core.proofs.FullGroups.{trimmed_whole}
use Rattle.move_core.proofs.passes.without_empty_groups.Goals as goal

pub loop-op-preserved : goal.loop-op-preserved
loop-op-preserved c =
    c.in_ok-append_trimmed.ensures (map body_view (drop (c.loop-op.op-index + 1) c.deref-op-items.result.now))
    ∙ (ap (λ (is : List Instruction). trimmed_instructions is (reverse (map body_view c.loop-op.out.items)))
    (sym (from_here c.deref-op-items.result.now c.loop-op.op-index (ops.SetChar (pos 0)) c.loop-op-test.true))
    ∙ c.loop-op.invariant)

pub returns-then-not-has_empty_group : goal.returns-then-not-has_empty_group
returns-then-not-has_empty_group c =
    sym (trimmed_whole (map body_view c.args.ops.items) (ap (λ (ops : List BodyOp). has_empty_group false (map body_view ops)) (sym c.deref.ensures.value) ∙ (sym c.has_empty_group.ensures ∙ c.if-not-has_empty_group.true)))
