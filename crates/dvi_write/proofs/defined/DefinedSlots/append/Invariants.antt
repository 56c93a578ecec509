use Rattle.std.proofs.Common.{◌≡◌, ◌++◌, take}
use Rattle.dvi_write.proofs.defined.DefinedSlots.append.Given as goal

abbrev pub invariant-loop-slot : goal.invariant-loop-slot
invariant-loop-slot l = l.self ≡ l.initial.self ++ take l.slot-index l.slots
