use Rattle.std.proofs.Common.{◌≡◌}
use Rattle.std.specs.Prelude.{filter}
use Rattle.dvi_write.specs.FilePages.{numbers_below}
use Rattle.dvi_write.specs.Private.FilePages.{is_marked_fresh}
use Rattle.dvi_write.proofs.layout.marked_fresh.Given as goal

abbrev pub invariant-loop-slot : goal.invariant-loop-slot
invariant-loop-slot l = l.slots.items ≡ filter (is_marked_fresh l.fonts l.defined l.passed.selected) (numbers_below l.slot)
