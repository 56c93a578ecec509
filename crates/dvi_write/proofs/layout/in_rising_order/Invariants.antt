use Rattle.std.proofs.Common.{◌≡◌}
use Rattle.std.specs.Prelude.{filter}
use Rattle.dvi_write.specs.FilePages.{numbers_below, is_among}
use Rattle.dvi_write.proofs.layout.in_rising_order.Given as goal

abbrev pub invariant-loop-slot : goal.invariant-loop-slot
invariant-loop-slot l = l.slots.items ≡ filter (λ slot. is_among slot l.defined) (numbers_below l.slot)
