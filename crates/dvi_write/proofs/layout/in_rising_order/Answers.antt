use Rattle.std.proofs.Common.{◌∙◌, arith}
use Rattle.dvi_write.proofs.FreshFonts.{in_rising_order-is}
use Rattle.dvi_write.proofs.layout.in_rising_order.Goals as goal

pub returns : goal.returns
returns c = c.loop-slot.invariant ∙ in_rising_order-is _ c.loop-slot.slot (omega (arith, c.loop-slot-test.false, c.loop-slot.auto.slot-end))
