use Rattle.std.proofs.Common.{arith}
use Rattle.std.proofs.lemmas.Int.{ints}
use Rattle.break_lines.proofs.dividing.is_less.Goals as goal

pub returns-then-parts-least_width : goal.returns-then-parts-least_width
returns-then-parts-least_width c is =
    omega (arith, ints, c.if-parts-least_width.true, c.least_width.ensures, c.least_width-2.ensures, c.least_width-3.ensures, c.get.ensures.value)
