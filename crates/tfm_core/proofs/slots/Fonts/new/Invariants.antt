use Rattle.std.proofs.Common.{◌≡◌, None, replicate}
use Rattle.tfm_core.proofs.slots.Fonts.new.Given as goal

abbrev pub invariant-loop : goal.invariant-loop
invariant-loop l = l.slots.items ≡ replicate l.counter None
