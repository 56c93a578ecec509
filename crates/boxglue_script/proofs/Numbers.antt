-- Numbers that a field writes.
use Rattle.std.proofs.Common.{◌≡◌, ◌==◌, ℕ, ℤ, pos, negsuc, ◌<◌, ◌≤◌, zero, suc, Bool, true, false, ◌&&◌, List, [], ◌∷◌, length, Option, Some, None, refl, ap, sym, ◌∙◌, subst, arith, ⊎_elim, nat_lt, unsigned_abs, FitsSigned, rules}
use Rattle.std.specs.Int.{w64}
use Rattle.std.specs.Option.{SomeIff}
use Rattle.std.specs.List.{list_all}
use Rattle.std.specs.Char.{digit_value}
use Rattle.std.specs.Str.{IsUtf8, IsAscii}
use Rattle.std.specs.Str.Parse.{IsNumeral, AllDigits, without_leading_sign, signed_digits_value}
use Rattle.std.proofs.lemmas.Str.{IsUtf8-from_ascii}
use Rattle.std.proofs.lemmas.Str.Parse.{digit_from_value}
use Rattle.std.proofs.lemmas.Bool.{ltb-true, lt-ltb, le-ltb, le-leb, lt-leb, eqb-true, cases_lt}
use Rattle.std.proofs.lemmas.Int.{ints, fits_signed_from_abs}
use Rattle.scaled_core.specs.Dimensions.{Within}
use Rattle.boxglue_script.specs.Grammar.{IsInteger}
use Rattle.boxglue_script.specs.Private.Reading.{number_of, number_among, penalty_of, penalty_number, is_numeral}

abbrev is_decimal : ℕ → Bool
is_decimal c = nat_lt (digit_value c) 10

-- The parts of a test joined by `&&`.
pub and_parts : (a b : Bool) → (a && b) ≡ true → (a ≡ true) × (b ≡ true)
and_parts true true h = (refl, refl)
and_parts true false h = absurd (cc)
and_parts false b h = absurd (cc)

all_digits : (digits : List ℕ) → list_all is_decimal digits ≡ true → AllDigits 10 digits
all_digits [] h = tt
all_digits (c ∷ digits) h =
    let parts = and_parts (is_decimal c) (list_all is_decimal digits) h in
    (ltb-true (digit_value c) 10 parts.0, all_digits digits parts.1)

digits_pass : (digits : List ℕ) → AllDigits 10 digits → list_all is_decimal digits ≡ true
digits_pass [] h = refl
digits_pass (c ∷ digits) h = rw (lt-ltb (digit_value c) 10 h.0) (digits_pass digits h.1)

pub numeral : (digits : List ℕ) → is_numeral digits ≡ true → IsNumeral 10 digits
numeral digits h =
    let parts = and_parts (nat_lt 0 (length digits)) (list_all is_decimal digits) h in
    (ltb-true 0 (length digits) parts.0, all_digits digits parts.1)

pub numeral_passes : (digits : List ℕ) → IsNumeral 10 digits → is_numeral digits ≡ true
numeral_passes digits h = rw (lt-ltb 0 (length digits) h.0) (digits_pass digits h.1)

ascii_more : (c : ℕ) (cs : List ℕ) → c < 128 → IsAscii cs → IsAscii (c ∷ cs)
ascii_more c cs low more zero = low
ascii_more c cs low more (suc i) = more i

digits_ascii : (digits : List ℕ) → AllDigits 10 digits → IsAscii digits
digits_ascii [] h = λ i. omega arith
digits_ascii (c ∷ digits) h = ascii_more c digits (omega (arith, digit_from_value c h.0)) (digits_ascii digits h.1)

signed_ascii : (c : ℕ) (cs : List ℕ) (minus plus : Bool) → (c == 45) ≡ minus → (c == 43) ≡ plus → IsNumeral 10 (without_leading_sign (c ∷ cs)) → IsAscii (c ∷ cs)
signed_ascii c cs true plus m p h =
    let rest : IsNumeral 10 cs = rw m at h in
    ascii_more c cs (omega (arith, eqb-true c 45 m)) (digits_ascii cs rest.1)
signed_ascii c cs false true m p h =
    let rest : IsNumeral 10 cs = rw (m, p) at h in
    ascii_more c cs (omega (arith, eqb-true c 43 p)) (digits_ascii cs rest.1)
signed_ascii c cs false false m p h =
    let all : IsNumeral 10 (c ∷ cs) = rw (m, p) at h in
    digits_ascii (c ∷ cs) all.1

number_ascii : (field : List ℕ) → IsNumeral 10 (without_leading_sign field) → IsAscii field
number_ascii [] h = λ i. omega arith
number_ascii (c ∷ cs) h = signed_ascii c cs (c == 45) (c == 43) refl refl h

-- What is not UTF-8 writes no number.
pub not_text : (field : List ℕ) → (IsUtf8 field → ⊥) → (z : ℤ) → IsInteger field z → FitsSigned w64 z → ⊥
not_text field h z is fits = h (IsUtf8-from_ascii field (number_ascii field is.digits))

same_fits : (y z : ℤ) → y ≡ z → FitsSigned w64 z → FitsSigned w64 y
same_fits y z e h = subst (FitsSigned w64) (sym e) h

-- What is not a number of 64 bits writes none of them.
pub not_number : (field : List ℕ) → (IsNumeral 10 (without_leading_sign field) × FitsSigned w64 (signed_digits_value 10 field) → ⊥) → (z : ℤ) → IsInteger field z → FitsSigned w64 z → ⊥
not_number field h z is fits = h (is.digits, same_fits (signed_digits_value 10 field) z is.value fits)

-- A numeral writes its number.
pub integer_named : (field : List ℕ) (z : ℤ) → IsNumeral 10 (without_leading_sign field) → z ≡ signed_digits_value 10 field → IsInteger field z
integer_named field z n e = record { digits = n; value = sym e }

pub ruleset integers = (not_text, not_number, integer_named)

by_test : (count : ℕ) (field : List ℕ) (b : Bool) → is_numeral (without_leading_sign field) ≡ b → (IsInteger field (signed_digits_value 10 field) → number_among count (signed_digits_value 10 field) ≡ None) → number_of count field ≡ None
unfolding number_of
by_test count field true e h = rw e (h (record { digits = numeral (without_leading_sign field) e; value = refl }))
by_test count field false e h = rw e refl

fits_small : (n : ℕ) → n < 65536 → FitsSigned w64 (pos n)
fits_small n h = search rules

too_large : (count : ℕ) (z : ℤ) → count ≤ 65536 → (FitsSigned w64 z → ⊥) → number_among count z ≡ None
too_large count (negsuc n) few h = refl
too_large count (pos n) few h = ⊎_elim (λ (small : n < count). absurd (h (fits_small n (omega arith)))) (λ (large : count ≤ n). rw (le-ltb n count large) refl) (cases_lt n count)

-- What writes no number of 64 bits writes none of at most 65536.
pub no_integer : (count : ℕ) (field : List ℕ) → count ≤ 65536 → ((z : ℤ) → IsInteger field z → FitsSigned w64 z → ⊥) → number_of count field ≡ None
no_integer count field few h = by_test count field _ refl (λ is. too_large count (signed_digits_value 10 field) few (λ fits. h (signed_digits_value 10 field) is fits))

-- A field writes its number, if it is small.
pub number_names : (count : ℕ) (field : List ℕ) (z : ℤ) → IsInteger field z → number_of count field ≡ number_among count z
unfolding number_of
number_names count field z is = rw (numeral_passes (without_leading_sign field) is.digits, is.value) refl

-- The small number of a field.
pub small_tried : (count : ℕ) (field : List ℕ) (z : ℤ) (o : Option ℕ) → IsInteger field z → o ≡ number_among count z → o ≡ number_of count field
small_tried count field z o is h = h ∙ sym (number_names count field z is)

pub ruleset numbers = (no_integer, number_names)

penalty_by : (field : List ℕ) (b : Bool) → is_numeral (without_leading_sign field) ≡ b → (IsInteger field (signed_digits_value 10 field) → penalty_number (signed_digits_value 10 field) ≡ None) → penalty_of field ≡ None
unfolding penalty_of
penalty_by field true e h = rw e (h (record { digits = numeral (without_leading_sign field) e; value = refl }))
penalty_by field false e h = rw e refl

-- An absolute value in the range of penalties.
pub within_penalties : (z : ℤ) → unsigned_abs z ≤ 500000000 → Within 500000000 z
within_penalties (pos n) h = record { low = omega (arith, ints); high = omega (arith, ints) }
within_penalties (negsuc n) h = record { low = omega (arith, ints); high = omega (arith, ints) }

pub penalty_within : (z : ℤ) → Within 500000000 z → unsigned_abs z ≤ 500000000
penalty_within (pos n) h = omega (arith, ints, h.low, h.high)
penalty_within (negsuc n) h = omega (arith, ints, h.low, h.high)

fits_penalty : (z : ℤ) → unsigned_abs z ≤ 500000000 → FitsSigned w64 z
fits_penalty z h = fits_signed_from_abs w64 z (omega arith)

no_small_penalty : (z : ℤ) → (Within 500000000 z → ⊥) → penalty_number z ≡ None
no_small_penalty z h = ⊎_elim
    (λ (large : 500000000 < unsigned_abs z). rw (lt-leb (unsigned_abs z) 500000000 large) refl)
    (λ (small : unsigned_abs z ≤ 500000000). absurd (h (within_penalties z small)))
    (cases_lt 500000000 (unsigned_abs z))

-- What writes no number of 64 bits writes none of a penalty.
pub no_integer_penalty : (field : List ℕ) → ((z : ℤ) → IsInteger field z → FitsSigned w64 z → ⊥) → penalty_of field ≡ None
no_integer_penalty field h = penalty_by field _ refl
    (λ is. no_small_penalty (signed_digits_value 10 field) (λ within. h (signed_digits_value 10 field) is (fits_penalty (signed_digits_value 10 field) (penalty_within (signed_digits_value 10 field) within))))

-- A field writes its number, if it is in the range of penalties.
pub penalty_names : (field : List ℕ) (z : ℤ) → IsInteger field z → penalty_of field ≡ penalty_number z
unfolding penalty_of
penalty_names field z is = rw (numeral_passes (without_leading_sign field) is.digits, is.value) refl

pub penalty_in : (z : ℤ) → Within 500000000 z → penalty_number z ≡ Some z
penalty_in z h = rw (le-leb (unsigned_abs z) 500000000 (penalty_within z h)) refl

-- What `Number::try_new` gives.
penalty_given : (z : ℤ) (o : Option ℤ) → SomeIff o (Within 500000000 z) z → o ≡ penalty_number z
penalty_given z None h = sym (no_small_penalty z h)
penalty_given z (Some x) h = ap Some h.1 ∙ sym (penalty_in z h.0)

pub penalty_tried : (field : List ℕ) (z : ℤ) (o : Option ℤ) → IsInteger field z → SomeIff o (Within 500000000 z) z → o ≡ penalty_of field
penalty_tried field z o is h = penalty_given z o h ∙ sym (penalty_names field z is)

pub ruleset penalties = (no_integer_penalty, penalty_tried)
