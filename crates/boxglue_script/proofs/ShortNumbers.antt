-- The number of at most nine digits, and the texts that write such a number without a sign.
use Rattle.std.proofs.Common.{◌≡◌, ◌==◌, ℕ, ℤ, pos, ◌+◌, ◌^◌, ◌<◌, ◌≤◌, zero, suc, Bool, true, false, List, [], ◌∷◌, length, take, get_or, refl, sym, ◌∙◌, arith}
use Rattle.std.specs.Int.{IsInRange}
use Rattle.std.specs.Char.{digit_value}
use Rattle.std.specs.Str.Parse.{IsNumeral, AllDigits, digits_value, without_leading_sign, starts_with_minus, signed_digits_value}
use Rattle.std.proofs.lemmas.Bool.{eqb-true}
use Rattle.std.proofs.lemmas.Str.{digit_value_digit}
use Rattle.std.proofs.lemmas.Str.Parse.{digit_from_value}
use Rattle.std.proofs.lemmas.Int.Digits.{digits_value-lt, digits_value_more, digits_more}
use Rattle.std.proofs.Math.Nat.{pow-le-pow_right}
use Rattle.std.proofs.lemmas.List.{length-take}
use Rattle.boxglue_script.specs.Grammar.{IsInteger}

-- Before the last of at most nine digits, their number is below 10^8.
pub small_number : (field : List ℕ) (i n : ℕ) → AllDigits 10 (take i field) → n ≡ digits_value 10 (take i field) → i < length field → length field ≤ 9 → n < 100000000
small_number field i n all is inside short =
    let few : length (take i field) ≤ 8 = omega (arith, length-take i field) in
    let most : 10 ^ length (take i field) ≤ 10 ^ 8 = pow-le-pow_right (omega arith) few in
    omega (arith, is, digits_value-lt 10 (take i field) all, most)

-- Each byte of digits is one.
pub digit_in : (digits : List ℕ) (i : ℕ) → AllDigits 10 digits → i < length digits → IsInRange 48 57 (get_or digits i 0)
digit_in [] i all inside = absurd (omega arith)
digit_in (c ∷ digits) zero all inside = digit_from_value c all.0
digit_in (c ∷ digits) (suc i) all inside = digit_in digits i all.1 (omega arith)

-- What the walk over digits needs.
pub ruleset short_numbers = (digit_in, digits_value_more, digits_more, digit_value_digit)

unsigned : (c : ℕ) (cs : List ℕ) (minus plus : Bool) → (c == 45) ≡ minus → (c == 43) ≡ plus → IsInRange 48 57 c → IsNumeral 10 (c ∷ cs) → IsInteger (c ∷ cs) (pos (digits_value 10 (c ∷ cs)))
unsigned c cs true plus m p digit is = absurd (omega (arith, eqb-true c 45 m, digit))
unsigned c cs false true m p digit is = absurd (omega (arith, eqb-true c 43 p, digit))
unsigned c cs false false m p digit is = record { digits = rw (m, p) is; value = rw (m, p) refl }

-- Digits without a sign write their number.
pub unsigned_integer : (field : List ℕ) (n : ℕ) → IsNumeral 10 field → n ≡ digits_value 10 field → IsInteger field (pos n)
unsigned_integer [] n is e = absurd (omega (arith, is.0))
unsigned_integer (c ∷ cs) n is e = rw e (unsigned c cs (c == 45) (c == 43) refl refl (digit_from_value c is.1.0) is)
