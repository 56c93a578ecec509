-- Texts of points with few digits and without a sign.
use Rattle.std.proofs.Common.{◌≡◌, ◌≢◌, ℕ, ℤ, pos, ◌+◌, ◌*◌, ◌/◌, ◌^◌, ◌==◌, ◌<◌, ◌≤◌, Bool, true, false, List, [], ◌∷◌, ◌++◌, zero, suc, ◌-◌, length, length-drop, take, drop, get_or, refl, ap, sym, ◌∙◌, arith, None, Some, Option, Result, Ok, Err, ⊎_elim}
use Rattle.std.specs.Prelude.{codes, if◌then◌else◌, IfSome}
use Rattle.std.specs.List.{take_while, prefix_len}
use Rattle.std.specs.Char.{is_ascii_digit}
use Rattle.std.specs.Str.Parse.{digits_value}
use Rattle.std.proofs.lemmas.Bool.{cases_Bool}
use Rattle.std.proofs.lemmas.Bool.Decides.{nat_tests}
use Rattle.std.proofs.lemmas.List.{take_all, take-append-drop, drop_all}
use Rattle.std.proofs.lemmas.List.Sums.{prefix_len-le-length}
use Rattle.std.proofs.lemmas.List.Folds.{length-prefix_len}
use Rattle.std.proofs.Math.Seq.{drop-cons}
use Rattle.std.proofs.Math.Nat.{pow-le-pow_right, pow-suc}
use Rattle.scaled_core.specs.declared.units.LengthUnit.TheVariants.{Point}
use Rattle.scaled_core.specs.declared.fault.DimenFault.{DimenFault}
use Rattle.scaled_core.specs.declared.fault.DimenFault.TheVariants.{TooLarge}
use Rattle.scaled_core.specs.Dimensions.{fits, dimension_of}
use Rattle.scaled_core.specs.DimensionTexts.{decimal_fraction}
use Rattle.scaled_core.specs.Rounding.{nearest}
use Rattle.scaled_core.specs.Units.{of_points}
use Rattle.scaled_core.specs.ParsedTexts.{is_negative, text_after_sign, front_digits, text_after_digits, point_digits, text_after_fraction, written_value, parsed_value, read_dimension}
use Rattle.scaled_core.proofs.DigitLemmas.{digit_code}
use Rattle.scaled_core.proofs.PointTexts.{read_dimension-points, the_unit}

-- There is a digit where the power of ten of their count is not 1.
pub some_digit : (count : ℕ) → 10 ^ count ≢ 1 → 0 < count
some_digit zero h = absurd (h refl)
some_digit (suc n) h = omega arith

-- A text that begins with a digit has no sign.
digit_first : (c : ℕ) (cs : List ℕ) → 0 < length (front_digits (c ∷ cs)) → is_ascii_digit c ≡ true
unfolding front_digits
digit_first c cs some = ⊎_elim
    (λ (yes : is_ascii_digit c ≡ true). yes)
    (λ (no : is_ascii_digit c ≡ false). absurd (let none : length (take_while is_ascii_digit (c ∷ cs)) ≡ 0 = rw no refl in omega (arith, some, none)))
    (cases_Bool (is_ascii_digit c))

no_minus : (text : List ℕ) → 0 < length (front_digits text) → is_negative text ≡ false
unfolding is_negative
no_minus [] some = refl
no_minus (c ∷ cs) some = let code = digit_code c (digit_first c cs some) in grind (arith, nat_tests)

no_sign : (text : List ℕ) → 0 < length (front_digits text) → text_after_sign text ≡ text
unfolding text_after_sign
no_sign [] some = refl
no_sign (c ∷ cs) some =
    let code = digit_code c (digit_first c cs some) in
    let minus : (c == 45) ≡ false = grind (arith, nat_tests) in
    let plus : (c == 43) ≡ false = grind (arith, nat_tests) in
    rw (minus, plus) refl

-- The value of some digits before the point.
points-value : (whole fraction : List ℕ) → 0 < length whole
    → written_value false whole fraction (Some Point) ≡ Some (pos (65536 * digits_value 10 whole + decimal_fraction fraction))
unfolding written_value of_points
points-value whole fraction some =
    let here : (length whole == 0) ≡ false = grind (arith, nat_tests) in
    let n : (65536 * digits_value 10 whole + decimal_fraction fraction) * 1 / 1 ≡ 65536 * digits_value 10 whole + decimal_fraction fraction = omega arith in
    rw (here, n) refl

-- A value that fits is read.
read-if : (b : Bool) (z : ℤ) (r : Result ℤ DimenFault) → r ≡ (if b then Ok z else Err TooLarge) → IfSome (if b then Some z else None) (λ d. r ≡ Ok d)
read-if true z r e = e
read-if false z r e = tt

found-read : (z : ℤ) → IfSome (dimension_of z) (λ d. parsed_value (Some z) ≡ Ok d)
unfolding dimension_of parsed_value
found-read z = read-if (fits z) z (parsed_value (Some z)) refl

-- The fraction of at most 17 digits.
pub fraction-short : (digits : List ℕ) → length digits ≤ 17 → nearest (digits_value 10 digits * 65536) (10 ^ length digits) ≡ decimal_fraction digits
unfolding decimal_fraction
fraction-short digits short = rw (take_all 17 digits short) refl

-- A text has no more digits at its beginning than bytes.
pub front-short : (text : List ℕ) → length (front_digits text) ≤ length text
unfolding front_digits
front-short text = omega (arith, length-prefix_len is_ascii_digit text, prefix_len-le-length is_ascii_digit text)

-- The value of a number of points that begins with a digit, and that nothing but a point and digits follow.
pub short-read :
    (number : List ℕ) (whole fraction : ℕ) (found : Option ℤ)
    → whole ≡ digits_value 10 (front_digits number)
    → 0 < length (front_digits number)
    → text_after_fraction (text_after_digits number) ≡ []
    → fraction ≡ decimal_fraction (point_digits (text_after_digits number))
    → found ≡ dimension_of (pos (65536 * whole + fraction))
    → IfSome found (λ d. read_dimension (number ++ codes "pt") ≡ Ok d)
short-read number whole fraction found w some all f is =
    let value : read_dimension (number ++ codes "pt") ≡ parsed_value (Some (pos (65536 * whole + fraction))) =
    read_dimension-points number
    ∙ rw (no_minus number some, no_sign number some, all, sym (the_unit [] refl), w, f)
    (ap parsed_value (points-value (front_digits number) (point_digits (text_after_digits number)) some)) in
    rw (is, value) (found-read (pos (65536 * whole + fraction)))

-- A power of ten with one more digit.
pub power-next : (i : ℕ) → 10 ^ (i + 1) ≡ 10 ^ i * 10
power-next i = let e : i + 1 ≡ suc i = omega arith in rw e (pow-suc 10 i)

-- A power of ten with fewer digits.
pub power-most : (i n : ℕ) → i ≤ n → 10 ^ i ≤ 10 ^ n
power-most i n h = pow-le-pow_right (omega arith) h

-- No more follows the digits than the text has.
pub after-short : (text : List ℕ) → length (text_after_digits text) ≤ length text
unfolding text_after_digits
after-short text = omega (arith, length-drop (prefix_len is_ascii_digit text) text)

-- A text without bytes writes no fraction.
pub no-fraction : (text : List ℕ) → length text < 1 → 0 ≡ decimal_fraction (point_digits text)
unfolding decimal_fraction point_digits nearest
no-fraction [] none = refl
no-fraction (c ∷ cs) none = absurd (omega (arith, none))

pub none-after : (text : List ℕ) → length text < 1 → text_after_fraction text ≡ []
unfolding text_after_fraction
none-after [] none = refl
none-after (c ∷ cs) none = absurd (omega (arith, none))

-- A text after its first byte, as a slice of it.
slice-after : (c : ℕ) (cs : List ℕ) → take (length (c ∷ cs) - 1) (drop 1 (c ∷ cs)) ≡ cs
slice-after c cs = let n : length (c ∷ cs) - 1 ≡ length cs = omega arith in rw n (take_all (length cs) cs (omega arith))

-- The digits after a point, and the text after them.
pub point-front : (text : List ℕ) → 1 ≤ length text → get_or text 0 0 ≡ 46 → front_digits (take (length text - 1) (drop 1 text)) ≡ point_digits text
unfolding point_digits
point-front [] some is = absurd (omega (arith, some))
point-front (c ∷ cs) some is = let first : c ≡ 46 = is in rw (slice-after c cs, first) refl

pub point-after : (text : List ℕ) → 1 ≤ length text → get_or text 0 0 ≡ 46 → text_after_fraction text ≡ text_after_digits (take (length text - 1) (drop 1 text))
unfolding text_after_fraction
point-after [] some is = absurd (omega (arith, some))
point-after (c ∷ cs) some is = let first : c ≡ 46 = is in rw (slice-after c cs, first) refl

-- A text without bytes.
pub empty-text : (text : List ℕ) → true ≡ (length text == 0) → text ≡ []
empty-text [] none = refl
empty-text (c ∷ cs) none = absurd (grind (arith, nat_tests))

-- A text that ends with the unit.
pub points-text :
    (text : List ℕ) → 2 ≤ length text → get_or text (length text - 2) 0 ≡ 112 → get_or text (length text - 1) 0 ≡ 116
    → text ≡ take (length text - 2) text ++ codes "pt"
points-text text long p t =
    let n = length text - 2 in
    let next : suc n ≡ length text - 1 = omega (arith, long) in
    let after : get_or text (suc n) 0 ≡ 116 = ap (λ (k : ℕ). get_or text k 0) next ∙ t in
    let none : drop (suc (suc n)) text ≡ [] = drop_all (suc (suc n)) text (omega (arith, long)) in
    let last : drop (suc n) text ≡ 116 ∷ [] = drop-cons text (suc n) 0 (omega (arith, long)) ∙ rw (after, none) refl in
    let both : drop n text ≡ 112 ∷ 116 ∷ [] = drop-cons text n 0 (omega (arith, long)) ∙ rw (p, last) refl in
    sym (take-append-drop n text) ∙ ap (λ (xs : List ℕ). take n text ++ xs) both
