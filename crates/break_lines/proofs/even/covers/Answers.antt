use Rattle.std.proofs.Common.{arith}
use Rattle.std.proofs.lemmas.Int.{ints}
use Rattle.break_lines.proofs.even.covers.Goals as goal

pub returns : goal.returns
returns c = λ is.
    let whole = c.requires.whole in
    let part = c.requires.part in
    record {
      width = omega (arith, ints, c.if-whole-part.false, whole.width, part.width);
      stretch = omega (arith, ints, c.if-whole-part-2.false, whole.stretch, part.stretch);
      fil = omega (arith, ints, c.if-whole-part-3.false, whole.fil, part.fil);
      fill = omega (arith, ints, c.if-whole-part-4.false, whole.fill, part.fill);
      filll = omega (arith, ints, c.if-whole-part-5.false, whole.filll, part.filll);
    }
