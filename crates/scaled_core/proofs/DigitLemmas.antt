-- Facts about decimal digits: their tests and the numbers that they write.
use Rattle.std.proofs.Common.{◌≡◌, ℕ, ◌+◌, ◌*◌, ◌/◌, ◌^◌, ◌<◌, ◌≤◌, zero, suc, Bool, true, false, ◌&&◌, List, [], ◌∷◌, length, take, get_or, refl, arith}
use Rattle.std.specs.List.{prefix_len}
use Rattle.std.specs.Char.{is_ascii_digit}
use Rattle.std.specs.Int.{IsInRange}
use Rattle.std.specs.Str.{all_ascii_digits}
use Rattle.std.specs.Str.Parse.{digits_value, AllDigits}
use Rattle.std.proofs.lemmas.Bool.Decides.{nat_tests}
use Rattle.std.proofs.lemmas.Str.{digit_value_digit}
use Rattle.std.proofs.Math.Numerals.{one-add}
use Rattle.std.proofs.Math.Nat.{one-le-pow, pow-le-pow_right, div-lt_iff_lt-mul}
use Rattle.scaled_core.specs.Rounding.{nearest}
use Rattle.std.proofs.lemmas.Int.Digits.{digits_value-lt, digits_value_more}

-- The parts of a test joined by `&&`.
pub and_parts : (a b : Bool) → (a && b) ≡ true → (a ≡ true) × (b ≡ true)
and_parts true true h = (refl, refl)
and_parts true false h = absurd (cc)
and_parts false b h = absurd (cc)

-- A digit's code.
pub digit_code : (c : ℕ) → is_ascii_digit c ≡ true → IsInRange 48 57 c
digit_code c h = grind (arith, nat_tests)

-- A text of digits, in the terms of the standard library.
pub AllDigits-from_digits : (ds : List ℕ) → all_ascii_digits ds ≡ true → AllDigits 10 ds
AllDigits-from_digits [] h = tt
AllDigits-from_digits (c ∷ cs) h =
    let p = and_parts (is_ascii_digit c) (all_ascii_digits cs) h in
    let r = digit_code c p.0 in
    (omega (arith, digit_value_digit c r), AllDigits-from_digits cs p.1)

-- The number of some digits is below the power of ten of their count.
pub digits_value-below : (ds : List ℕ) → all_ascii_digits ds ≡ true → digits_value 10 ds < 10 ^ length ds
digits_value-below ds h = digits_value-lt 10 ds (AllDigits-from_digits ds h)

-- Each code of a text of digits is a digit's.
pub digit_at : (ds : List ℕ) (i : ℕ) → all_ascii_digits ds ≡ true → i < length ds → IsInRange 48 57 (get_or ds i 0)
digit_at [] i h lt = absurd (omega arith)
digit_at (c ∷ cs) zero h lt = digit_code c (and_parts (is_ascii_digit c) (all_ascii_digits cs) h).0
digit_at (c ∷ cs) (suc i) h lt = digit_at cs i (and_parts (is_ascii_digit c) (all_ascii_digits cs) h).1 (omega arith)

take_one_more : (c : ℕ) (cs : List ℕ) (n : ℕ) → is_ascii_digit c ≡ true → all_ascii_digits (take n cs) ≡ true → all_ascii_digits (take (1 + n) (c ∷ cs)) ≡ true
take_one_more c cs n e h = rw (one-add n) (rw e h)

front_step : (c : ℕ) (cs : List ℕ) (b : Bool) → is_ascii_digit c ≡ b → all_ascii_digits (take (prefix_len is_ascii_digit cs) cs) ≡ true → all_ascii_digits (take (prefix_len is_ascii_digit (c ∷ cs)) (c ∷ cs)) ≡ true
front_step c cs true e h = rw e (take_one_more c cs (prefix_len is_ascii_digit cs) e h)
front_step c cs false e h = rw e refl

-- The digits at the front of a text are digits.
pub front_are_digits : (text : List ℕ) → all_ascii_digits (take (prefix_len is_ascii_digit text) text) ≡ true
front_are_digits [] = refl
front_are_digits (c ∷ cs) =
    let here = λ (b : Bool). λ (e : is_ascii_digit c ≡ b). front_step c cs b e (front_are_digits cs) in
    here (is_ascii_digit c) refl

-- The facts that the loops over digits need.
pub ruleset digits = (AllDigits-from_digits, digits_value-below, digit_at, front_are_digits, digits_value_more, digit_value_digit)

-- A power of ten is above 0.
pub ten_power : (k : ℕ) → 0 < 10 ^ k
ten_power k = omega (arith, one-le-pow k 10 (omega arith))

-- Up to the 17th power it is at most 10 ^ 17.
pub ten_power_most : (k : ℕ) → k ≤ 17 → 10 ^ k ≤ 10 ^ 17
ten_power_most k h = pow-le-pow_right (omega arith) h

-- At most 17 digits make a number below 10 ^ 17.
pub digits_value-short : (ds : List ℕ) → all_ascii_digits ds ≡ true → length ds ≤ 17 → digits_value 10 ds < 10 ^ 17
digits_value-short ds h short = omega (arith, digits_value-below ds h, ten_power_most (length ds) short)

-- A proper fraction is at most 65536 of 65536ths.
pub nearest-small : (v d : ℕ) → v < d → nearest (v * 65536) d ≤ 65536
unfolding nearest
nearest-small v d h =
    let below : (2 * (v * 65536) + d) / (2 * d) < 65537 = (div-lt_iff_lt-mul {k = 2 * d} {x = 2 * (v * 65536) + d} {y = 65537} (omega arith)).1 (omega arith) in
    omega arith

-- The facts that the fraction needs.
pub ruleset fractions = (digits_value-below, digits_value-short, ten_power, ten_power_most, nearest-small)
