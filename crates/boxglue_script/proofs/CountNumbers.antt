-- The counts of a page that fields write.
use Rattle.std.proofs.Common.{◌≡◌, ℕ, ℤ, pos, negsuc, ◌<◌, ◌≤◌, Bool, true, false, List, Some, None, if◌then◌else◌, refl, ◌∙◌, subst, arith, ⊎_elim, nat_lt, FitsSigned}
use Rattle.std.specs.Int.{w32, w64}
use Rattle.std.specs.Str.Parse.{without_leading_sign, signed_digits_value}
use Rattle.std.proofs.lemmas.Bool.{ltb-true, lt-ltb, le-ltb, cases_lt}
use Rattle.boxglue_script.specs.Grammar.{IsInteger, IsCount}
use Rattle.boxglue_script.specs.Private.Reading.{is_numeral, count_value, count_of}
use Rattle.boxglue_script.proofs.Numbers.{numeral, numeral_passes}

-- The range of a count.
pub count_in : (z : ℤ) → FitsSigned w32 z → count_value z ≡ Some z
count_in (pos n) h = rw (lt-ltb n 2147483648 (omega (arith, h.sfits))) refl
count_in (negsuc n) h = rw (lt-ltb n 2147483648 (omega (arith, h.sfits))) refl

one_count : (n : ℕ) (y z : ℤ) (b : Bool) → nat_lt n 2147483648 ≡ b → (if b then Some y else None) ≡ Some z → (y ≡ z) × (n < 2147483648)
one_count n y z true e h = (cc, ltb-true n 2147483648 e)
one_count n y z false e h = absurd (cc)

pub within_count : (y z : ℤ) → count_value y ≡ Some z → (y ≡ z) × FitsSigned w32 y
within_count (pos n) z h = let one = one_count n (pos n) z (nat_lt n 2147483648) refl h in (one.0, record { sfits = omega (arith, one.1) })
within_count (negsuc n) z h = let one = one_count n (negsuc n) z (nat_lt n 2147483648) refl h in (one.0, record { sfits = omega (arith, one.1) })

no_count : (z : ℤ) → (FitsSigned w32 z → ⊥) → count_value z ≡ None
no_count (pos n) h = ⊎_elim
    (λ (small : n < 2147483648). absurd (h (record { sfits = omega (arith, small) })))
    (λ (large : 2147483648 ≤ n). rw (le-ltb n 2147483648 large) refl)
    (cases_lt n 2147483648)
no_count (negsuc n) h = ⊎_elim
    (λ (small : n < 2147483648). absurd (h (record { sfits = omega (arith, small) })))
    (λ (large : 2147483648 ≤ n). rw (le-ltb n 2147483648 large) refl)
    (cases_lt n 2147483648)

wide : (z : ℤ) → FitsSigned w32 z → FitsSigned w64 z
wide (pos n) h = record { sfits = omega (arith, h.sfits) }
wide (negsuc n) h = record { sfits = omega (arith, h.sfits) }

count_by : (field : List ℕ) (b : Bool) → is_numeral (without_leading_sign field) ≡ b → (IsInteger field (signed_digits_value 10 field) → count_value (signed_digits_value 10 field) ≡ None) → count_of field ≡ None
unfolding count_of
count_by field true e h = rw e (h (record { digits = numeral (without_leading_sign field) e; value = refl }))
count_by field false e h = rw e refl

-- What writes no number of 64 bits writes no count.
pub no_integer_count : (field : List ℕ) → ((z : ℤ) → IsInteger field z → FitsSigned w64 z → ⊥) → count_of field ≡ None
no_integer_count field h =
    count_by field _ refl
    (λ is. no_count (signed_digits_value 10 field) (λ fits. h (signed_digits_value 10 field) is (wide (signed_digits_value 10 field) fits)))

-- A field writes its number, if it is in the range of counts.
pub count_names : (field : List ℕ) (z : ℤ) → IsInteger field z → count_of field ≡ count_value z
unfolding count_of
count_names field z is = rw (numeral_passes (without_leading_sign field) is.digits, is.value) refl

pub ruleset counts = (no_integer_count, count_names)

count_by_numeral : (field : List ℕ) (z : ℤ) (b : Bool) → is_numeral (without_leading_sign field) ≡ b → count_of field ≡ Some z → IsCount field z
unfolding count_of
count_by_numeral field z true e h =
    let one = within_count (signed_digits_value 10 field) z (rw e at h) in
    let small : FitsSigned w32 z = subst (FitsSigned w32) one.0 one.1 in
    record { written = record { digits = numeral (without_leading_sign field) e; value = one.0 }; small = small }
count_by_numeral field z false e h = let s : None ≡ Some z = rw e at h in absurd (cc)

-- What is read as a count is one.
pub writes_count : (field : List ℕ) (z : ℤ) → count_of field ≡ Some z → IsCount field z
writes_count field z h = count_by_numeral field z _ refl h

pub count_written : (field : List ℕ) (z : ℤ) → IsCount field z → count_of field ≡ Some z
count_written field z h = count_names field z h.written ∙ count_in z h.small
