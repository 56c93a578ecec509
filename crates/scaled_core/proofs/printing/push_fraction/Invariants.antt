use Rattle.std.proofs.Common.{◌≡◌, ◌≤◌, ◌+◌, ◌++◌, ◌/◌, vec_len, vec_capacity}
use Rattle.scaled_core.specs.PrintedDimensions.{last_digits}
use Rattle.scaled_core.proofs.PrintingLemmas.{IsPrinting, spread}
use Rattle.scaled_core.proofs.printing.push_fraction.Given as goal

-- The digits so far, and the remainder; one byte was taken for each digit, and the space has not shrunk.
abbrev pub invariant-loop : goal.invariant-loop
invariant-loop l = IsPrinting l.fraction l.counter l.rest l.unit × (l.out.items ≡ l.fn.out.items ++ last_digits l.counter (spread l.counter l.fraction / 655360))
    × (vec_len l.out ≡ vec_len l.fn.out + l.counter) × (vec_capacity l.fn.out ≤ vec_capacity l.out)
