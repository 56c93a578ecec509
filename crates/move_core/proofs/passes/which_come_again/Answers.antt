use Rattle.std.proofs.Common.{pos, ◌-◌, map, drop, get_or, sym, subst, arith, ◌∙◌, ap, List, ◌<◌, length}
use Rattle.dvi_ops.specs.Instruction.{Instruction}
use Rattle.dvi_ops.specs.View.{body_view}
use Rattle.dvi_ops.specs.declared.body_op.BodyOp.{BodyOp}
use Rattle.dvi_ops.specs.declared.body_op.BodyOp.TheVariants as ops
use Rattle.move_core.specs.Private.Passes.{Knows, flags_of}
use Rattle.move_core.proofs.Flags.{in_front}
use Rattle.move_core.proofs.passes.which_come_again.Goals as goal

pub loop-i-preserved : goal.loop-i-preserved
loop-i-preserved c =
    let all = c.args.ops.now in
    let i = c.loop-i.i in
    let op : BodyOp = get_or all (i - 1) (ops.SetChar (pos 0)) in
    let rest : List Instruction = map body_view (drop i all) in
    let at : i - 1 < length all = omega arith in
    let e = in_front all i (ops.SetChar (pos 0)) (omega arith) at in
    record {
      knows = subst (λ (is : List Instruction). Knows c.meet.new.self is) (sym e) (c.in_ok-again.ensures.knows rest c.loop-i.invariant.knows);
      space = omega (arith, c.loop-i.invariant.space, c.push_flag.ensures.len, c.push_flag.ensures.capacity);
      flags = c.push_flag.ensures.flags rest (c.in_ok-again.ensures.again rest c.loop-i.invariant.knows) c.loop-i.invariant.flags ∙ ap flags_of (sym e);
    }
