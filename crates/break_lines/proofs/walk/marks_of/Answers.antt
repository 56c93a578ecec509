use Rattle.std.proofs.Common.{◌≡◌, subst, arith}
use Rattle.break_lines.specs.Private.Marks.{HasMeasuredFrom}
use Rattle.break_lines.proofs.walk.marks_of.Goals as goal

pub into_marks-requires : goal.into_marks-requires
into_marks-requires c =
    let none : c.loop-index.index ≡ 0 = omega (arith, c.loop-index-test.false) in
    record { list_bounded = c.requires.list_bounded; walked = subst (λ i. HasMeasuredFrom c.args.nodes.now i c.loop-index.walk) none c.loop-index.invariant.walked }
