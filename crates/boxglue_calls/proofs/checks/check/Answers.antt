-- The fault of refused memory.
use Rattle.std.proofs.Common.{inl, refl}
use Rattle.boxglue_calls.proofs.checks.check.Goals as goal

pub returns-in-Err-clause-done : goal.returns-in-Err-clause-done
returns-in-Err-clause-done c = inl (refl, c.fault_numbers.ensures, c.in-Err.ensures.memory)
