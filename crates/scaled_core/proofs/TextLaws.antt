-- The function `dimension_value` and the relation `IsDimensionText` say the same.
use Rattle.std.proofs.Common.{◌≡◌, ◌≢◌, ℕ, ℤ, ◌+◌, ◌<◌, suc, Bool, true, false, cond, eqb, List, [], ◌∷◌, ◌++◌, Option, Some, None, length, sym, ◌∙◌, ap, refl, arith}
use Rattle.std.specs.List.{prefix_len}
use Rattle.std.specs.Char.{is_ascii_digit}
use Rattle.std.specs.Str.{all_ascii_digits}
use Rattle.std.specs.Str.Parse.{digits_value}
use Rattle.std.proofs.lemmas.Bool.{eqb-true, ne_eqb, and_parts}
use Rattle.std.proofs.lemmas.Slice.Eq.{bytes_eq-Decides}
use Rattle.std.proofs.lemmas.List.{take-append-drop}
use Rattle.std.proofs.Math.Seq.{drop-append_seam, take-append_seam}
use Rattle.std.proofs.Math.Numerals.{one-add}
use Rattle.scaled_core.specs.declared.units.LengthUnit.{LengthUnit}
use Rattle.scaled_core.specs.declared.units.LengthUnit.TheVariants.{Point, Inch, Pica, Centimeter, Millimeter, BigPoint, DidotPoint, Cicero, ScaledPoint}
use Rattle.scaled_core.specs.DimensionTexts.{Sign, unsigned, plus, minus, sign_text, with_sign, DimensionParts, fraction_digits, fraction_text, parts_text, parts_value, IsDimensionText, decimal_fraction}
use Rattle.scaled_core.specs.Units.{unit_text, scaled_points}
use Rattle.scaled_core.specs.ParsedTexts.{text_after_digits, text_after_fraction, text_after_sign, dimension_value, front_digits, is_negative, written_value, point_digits, unit_named, with_minus}
use Rattle.scaled_core.proofs.DigitLemmas.{digit_code, front_are_digits}

-- Digits before a text that does not begin with one.

-- The text does not begin with a digit.
abbrev NoDigitFirst : List ℕ → Type 0
NoDigitFirst text = prefix_len is_ascii_digit text ≡ 0

prefix_len_step : (c : ℕ) (xs : List ℕ) → is_ascii_digit c ≡ true → prefix_len is_ascii_digit (c ∷ xs) ≡ suc (prefix_len is_ascii_digit xs)
prefix_len_step c xs e = rw e (one-add (prefix_len is_ascii_digit xs))

prefix_len-digits : (xs ys : List ℕ) → all_ascii_digits xs ≡ true → NoDigitFirst ys → prefix_len is_ascii_digit (xs ++ ys) ≡ length xs
prefix_len-digits [] ys h none = none
prefix_len-digits (c ∷ cs) ys h none =
    let p = and_parts (is_ascii_digit c) (all_ascii_digits cs) h in
    prefix_len_step c (cs ++ ys) p.0 ∙ ap suc (prefix_len-digits cs ys p.1 none)

-- The digits are read as a whole if no digit follows.
pub front_digits-append : (xs ys : List ℕ) → all_ascii_digits xs ≡ true → NoDigitFirst ys → front_digits (xs ++ ys) ≡ xs
unfolding front_digits
front_digits-append xs ys h none = rw (prefix_len-digits xs ys h none) (take-append_seam xs ys)

-- The text after them is the rest.
pub text_after_digits-append : (xs ys : List ℕ) → all_ascii_digits xs ≡ true → NoDigitFirst ys → text_after_digits (xs ++ ys) ≡ ys
unfolding text_after_digits
text_after_digits-append xs ys h none = rw (prefix_len-digits xs ys h none) (drop-append_seam xs ys)

-- The unit.

unit-no_digit : (u : LengthUnit) → NoDigitFirst (unit_text u)
unit-no_digit Point = refl
unit-no_digit Inch = refl
unit-no_digit Pica = refl
unit-no_digit Centimeter = refl
unit-no_digit Millimeter = refl
unit-no_digit BigPoint = refl
unit-no_digit DidotPoint = refl
unit-no_digit Cicero = refl
unit-no_digit ScaledPoint = refl

-- A unit's own name names it.
pub unit_named-text : (u : LengthUnit) → unit_named (unit_text u) ≡ Some u
unfolding unit_named
unit_named-text Point = refl
unit_named-text Inch = refl
unit_named-text Pica = refl
unit_named-text Centimeter = refl
unit_named-text Millimeter = refl
unit_named-text BigPoint = refl
unit_named-text DidotPoint = refl
unit_named-text Cicero = refl
unit_named-text ScaledPoint = refl

-- The fraction.

fraction-no_digit : (fraction : Option (List ℕ)) (u : LengthUnit) → NoDigitFirst (fraction_text fraction ++ unit_text u)
fraction-no_digit None u = unit-no_digit u
fraction-no_digit (Some ds) u = refl

unit-no_point : (u : LengthUnit) → point_digits (unit_text u) ≡ []
unfolding point_digits
unit-no_point Point = refl
unit-no_point Inch = refl
unit-no_point Pica = refl
unit-no_point Centimeter = refl
unit-no_point Millimeter = refl
unit-no_point BigPoint = refl
unit-no_point DidotPoint = refl
unit-no_point Cicero = refl
unit-no_point ScaledPoint = refl

unit-text_after_fraction : (u : LengthUnit) → text_after_fraction (unit_text u) ≡ unit_text u
unfolding text_after_fraction
unit-text_after_fraction Point = refl
unit-text_after_fraction Inch = refl
unit-text_after_fraction Pica = refl
unit-text_after_fraction Centimeter = refl
unit-text_after_fraction Millimeter = refl
unit-text_after_fraction BigPoint = refl
unit-text_after_fraction DidotPoint = refl
unit-text_after_fraction Cicero = refl
unit-text_after_fraction ScaledPoint = refl

point_digits-text : (fraction : Option (List ℕ)) (u : LengthUnit) → all_ascii_digits (fraction_digits fraction) ≡ true → point_digits (fraction_text fraction ++ unit_text u) ≡ fraction_digits fraction
unfolding point_digits
point_digits-text None u h = unit-no_point u
point_digits-text (Some ds) u h = front_digits-append ds (unit_text u) h (unit-no_digit u)

text_after_fraction-text : (fraction : Option (List ℕ)) (u : LengthUnit) → all_ascii_digits (fraction_digits fraction) ≡ true → text_after_fraction (fraction_text fraction ++ unit_text u) ≡ unit_text u
unfolding text_after_fraction
text_after_fraction-text None u h = unit-text_after_fraction u
text_after_fraction-text (Some ds) u h = text_after_digits-append ds (unit_text u) h (unit-no_digit u)

-- The sign.

-- The text does not begin with a sign.
pub record NoSignFirst (text : List ℕ) : Type 0 where
  pub after : text_after_sign text ≡ text
  pub negative : is_negative text ≡ false

no_sign : (c : ℕ) (cs : List ℕ) → c ≢ 45 → c ≢ 43 → NoSignFirst (c ∷ cs)
unfolding text_after_sign is_negative
no_sign c cs m p = record {
  after = rw (ne_eqb c 45 m) (rw (ne_eqb c 43 p) refl);
  negative = ne_eqb c 45 m;
}

unit-no_sign : (u : LengthUnit) → NoSignFirst (unit_text u)
unfolding text_after_sign is_negative
unit-no_sign Point = record { after = refl; negative = refl }
unit-no_sign Inch = record { after = refl; negative = refl }
unit-no_sign Pica = record { after = refl; negative = refl }
unit-no_sign Centimeter = record { after = refl; negative = refl }
unit-no_sign Millimeter = record { after = refl; negative = refl }
unit-no_sign BigPoint = record { after = refl; negative = refl }
unit-no_sign DidotPoint = record { after = refl; negative = refl }
unit-no_sign Cicero = record { after = refl; negative = refl }
unit-no_sign ScaledPoint = record { after = refl; negative = refl }

body-no_sign : (whole : List ℕ) (fraction : Option (List ℕ)) (u : LengthUnit) → all_ascii_digits whole ≡ true → NoSignFirst (whole ++ (fraction_text fraction ++ unit_text u))
body-no_sign [] None u h = unit-no_sign u
body-no_sign [] (Some ds) u h = no_sign 46 (ds ++ unit_text u) (omega arith) (omega arith)
body-no_sign (c ∷ cs) fraction u h =
    let r = digit_code c (and_parts (is_ascii_digit c) (all_ascii_digits cs) h).0 in
    no_sign c (cs ++ (fraction_text fraction ++ unit_text u)) (omega arith) (omega arith)

-- The sign is a minus.
abbrev is_minus : Sign → Bool
is_minus unsigned = false
is_minus plus = false
is_minus minus = true

text_after_sign-text : (sign : Sign) (body : List ℕ) → NoSignFirst body → text_after_sign (sign_text sign ++ body) ≡ body
unfolding text_after_sign
text_after_sign-text unsigned body h = h.after
text_after_sign-text plus body h = refl
text_after_sign-text minus body h = refl

is_negative-text : (sign : Sign) (body : List ℕ) → NoSignFirst body → is_negative (sign_text sign ++ body) ≡ is_minus sign
unfolding is_negative
is_negative-text unsigned body h = h.negative
is_negative-text plus body h = refl
is_negative-text minus body h = refl

with_minus-sign : (sign : Sign) (n : ℕ) → with_minus (is_minus sign) n ≡ with_sign sign n
with_minus-sign unsigned n = refl
with_minus-sign plus n = refl
with_minus-sign minus n = refl

-- The value of the parts.

written_value-some : (negative : Bool) (whole fraction : List ℕ) (u : LengthUnit) → 0 < length whole + length fraction → written_value negative whole fraction (Some u) ≡ Some (with_minus negative (scaled_points u (digits_value 10 whole) (decimal_fraction fraction)))
unfolding written_value
written_value-some negative [] [] u h = absurd (omega arith)
written_value-some negative [] (d ∷ ds) u h = rw (ne_eqb (suc (length ds)) 0 (omega arith)) refl
written_value-some negative (c ∷ cs) fraction u h = rw (ne_eqb (suc (length cs)) 0 (omega arith)) refl

-- The text with these parts has their value.
pub dimension_value-parts : (p : DimensionParts) → all_ascii_digits p.whole ≡ true → all_ascii_digits (fraction_digits p.fraction) ≡ true → 0 < length p.whole + length (fraction_digits p.fraction) → dimension_value (parts_text p) ≡ Some (parts_value p)
unfolding dimension_value
dimension_value-parts p w f some =
    let rest = fraction_text p.fraction ++ unit_text p.unit in
    let body = p.whole ++ rest in
    let no_sign_first = body-no_sign p.whole p.fraction p.unit w in
    let no_digit = fraction-no_digit p.fraction p.unit in
    let number : text_after_sign (parts_text p) ≡ body = text_after_sign-text p.sign body no_sign_first in
    let front : front_digits (text_after_sign (parts_text p)) ≡ p.whole = ap front_digits number ∙ front_digits-append p.whole rest w no_digit in
    let after : text_after_digits (text_after_sign (parts_text p)) ≡ rest = ap text_after_digits number ∙ text_after_digits-append p.whole rest w no_digit in
    let points : point_digits (text_after_digits (text_after_sign (parts_text p))) ≡ fraction_digits p.fraction = ap point_digits after ∙ point_digits-text p.fraction p.unit f in
    let unit : unit_named (text_after_fraction (text_after_digits (text_after_sign (parts_text p)))) ≡ Some p.unit = ap unit_named (ap text_after_fraction after ∙ text_after_fraction-text p.fraction p.unit f) ∙ unit_named-text p.unit in
    rw (is_negative-text p.sign body no_sign_first, front, points, unit) (written_value-some (is_minus p.sign) p.whole (fraction_digits p.fraction) p.unit some ∙ ap Some (with_minus-sign p.sign (scaled_points p.unit (digits_value 10 p.whole) (decimal_fraction (fraction_digits p.fraction)))))

-- A dimension text has the value that the function gives.
pub dimension_value-from_text : (text : List ℕ) (value : ℤ) → IsDimensionText text value → dimension_value text ≡ Some value
dimension_value-from_text text value d = ap dimension_value d.text_is ∙ dimension_value-parts d.parts d.whole d.fraction d.some_digit ∙ ap Some (sym d.value_is)

-- From the text to its parts.

-- The sign at the beginning of a text.
abbrev sign_of : List ℕ → Sign
sign_of [] = unsigned
sign_of (c ∷ cs) = cond (eqb c 45) minus (cond (eqb c 43) plus unsigned)

sign_step : (c : ℕ) (cs : List ℕ) (m p : Bool) → eqb c 45 ≡ m → eqb c 43 ≡ p → c ∷ cs ≡ sign_text (sign_of (c ∷ cs)) ++ text_after_sign (c ∷ cs)
unfolding text_after_sign
sign_step c cs true p em ep = rw em (ap (λ (x : ℕ). x ∷ cs) (eqb-true c 45 em))
sign_step c cs false true em ep = rw (em, ep) (ap (λ (x : ℕ). x ∷ cs) (eqb-true c 43 ep))
sign_step c cs false false em ep = rw (em, ep) refl

text_by_sign : (text : List ℕ) → text ≡ sign_text (sign_of text) ++ text_after_sign text
unfolding text_after_sign
text_by_sign [] = refl
text_by_sign (c ∷ cs) = sign_step c cs (eqb c 45) (eqb c 43) refl refl

negative_step : (c : ℕ) (cs : List ℕ) (m p : Bool) → eqb c 45 ≡ m → eqb c 43 ≡ p → is_negative (c ∷ cs) ≡ is_minus (sign_of (c ∷ cs))
unfolding is_negative
negative_step c cs true p em ep = rw em refl
negative_step c cs false true em ep = rw (em, ep) refl
negative_step c cs false false em ep = rw (em, ep) refl

is_negative-sign_of : (text : List ℕ) → is_negative text ≡ is_minus (sign_of text)
unfolding is_negative
is_negative-sign_of [] = refl
is_negative-sign_of (c ∷ cs) = negative_step c cs (eqb c 45) (eqb c 43) refl refl

text_by_digits : (text : List ℕ) → text ≡ front_digits text ++ text_after_digits text
unfolding front_digits text_after_digits
text_by_digits text = sym (take-append-drop (prefix_len is_ascii_digit text) text)

front_digits-digits : (text : List ℕ) → all_ascii_digits (front_digits text) ≡ true
unfolding front_digits
front_digits-digits text = front_are_digits text

-- The point and its digits.
abbrev fraction_at : List ℕ → Option (List ℕ)
fraction_at [] = None
fraction_at (c ∷ cs) = cond (eqb c 46) (Some (front_digits cs)) None

fraction_step : (c : ℕ) (cs : List ℕ) (b : Bool) → eqb c 46 ≡ b → c ∷ cs ≡ fraction_text (fraction_at (c ∷ cs)) ++ text_after_fraction (c ∷ cs)
unfolding text_after_fraction
fraction_step c cs true e = rw e (ap (λ (x : ℕ). x ∷ cs) (eqb-true c 46 e) ∙ ap (λ (xs : List ℕ). 46 ∷ xs) (text_by_digits cs))
fraction_step c cs false e = rw e refl

text_by_fraction : (text : List ℕ) → text ≡ fraction_text (fraction_at text) ++ text_after_fraction text
unfolding text_after_fraction
text_by_fraction [] = refl
text_by_fraction (c ∷ cs) = fraction_step c cs (eqb c 46) refl

point_step : (c : ℕ) (cs : List ℕ) (b : Bool) → eqb c 46 ≡ b → point_digits (c ∷ cs) ≡ fraction_digits (fraction_at (c ∷ cs))
unfolding point_digits
point_step c cs true e = rw e refl
point_step c cs false e = rw e refl

point_digits-at : (text : List ℕ) → point_digits text ≡ fraction_digits (fraction_at text)
unfolding point_digits
point_digits-at [] = refl
point_digits-at (c ∷ cs) = point_step c cs (eqb c 46) refl

point_are_step : (c : ℕ) (cs : List ℕ) (b : Bool) → eqb c 46 ≡ b → all_ascii_digits (point_digits (c ∷ cs)) ≡ true
unfolding point_digits
point_are_step c cs true e = rw e (front_digits-digits cs)
point_are_step c cs false e = rw e refl

point_digits-digits : (text : List ℕ) → all_ascii_digits (point_digits text) ≡ true
unfolding point_digits
point_digits-digits [] = refl
point_digits-digits (c ∷ cs) = point_are_step c cs (eqb c 46) refl

-- The name of a unit that was found is its text.
named_text : (text : List ℕ) (u : LengthUnit) → unit_named text ≡ Some u → text ≡ unit_text u
unfolding unit_named
named_text text u h = grind (arith, bytes_eq-Decides)

-- A value has a digit and a unit.
pub record IsMeasured (negative : Bool) (whole fraction : List ℕ) (unit : Option LengthUnit) (value : ℤ) : Type 0 where
  pub found : LengthUnit
  pub unit_is : unit ≡ Some found
  pub some_digit : 0 < length whole + length fraction
  pub value_is : value ≡ with_minus negative (scaled_points found (digits_value 10 whole) (decimal_fraction fraction))

written_value-no_unit : (negative : Bool) (whole fraction : List ℕ) → written_value negative whole fraction None ≡ None
unfolding written_value
written_value-no_unit negative [] [] = refl
written_value-no_unit negative [] (d ∷ ds) = rw (ne_eqb (suc (length ds)) 0 (omega arith)) refl
written_value-no_unit negative (c ∷ cs) fraction = rw (ne_eqb (suc (length cs)) 0 (omega arith)) refl

written_value-no_digit : (negative : Bool) (unit : Option LengthUnit) → written_value negative [] [] unit ≡ None
unfolding written_value
written_value-no_digit negative unit = refl

measured_value : (negative : Bool) (whole fraction : List ℕ) (u : LengthUnit) (value : ℤ) → 0 < length whole + length fraction → written_value negative whole fraction (Some u) ≡ Some value → IsMeasured negative whole fraction (Some u) value
measured_value negative whole fraction u value some h =
    let e = written_value-some negative whole fraction u some in
    record { found = u; unit_is = refl; some_digit = some; value_is = cc }

measured_parts : (negative : Bool) (whole fraction : List ℕ) (unit : Option LengthUnit) (value : ℤ) → written_value negative whole fraction unit ≡ Some value → IsMeasured negative whole fraction unit value
measured_parts negative whole fraction None value h = let e = written_value-no_unit negative whole fraction in absurd (cc)
measured_parts negative [] [] (Some u) value h = let e = written_value-no_digit negative (Some u) in absurd (cc)
measured_parts negative [] (d ∷ ds) (Some u) value h = measured_value negative [] (d ∷ ds) u value (omega arith) h
measured_parts negative (c ∷ cs) fraction (Some u) value h = measured_value negative (c ∷ cs) fraction u value (omega arith) h

value_by_sign : (negative : Bool) (sign : Sign) (whole read written : List ℕ) (u : LengthUnit) → negative ≡ is_minus sign → read ≡ written → with_minus negative (scaled_points u (digits_value 10 whole) (decimal_fraction read)) ≡ with_sign sign (scaled_points u (digits_value 10 whole) (decimal_fraction written))
value_by_sign negative sign whole read written u e f = rw (e, f) (with_minus-sign sign (scaled_points u (digits_value 10 whole) (decimal_fraction written)))

-- If the function gives a value, the text is a dimension text of that value.
pub IsDimensionText-from_value : (text : List ℕ) (value : ℤ) → dimension_value text ≡ Some value → IsDimensionText text value
unfolding dimension_value
IsDimensionText-from_value text value h =
    let number = text_after_sign text in
    let rest = text_after_digits number in
    let name = text_after_fraction rest in
    let m = measured_parts (is_negative text) (front_digits number) (point_digits rest) (unit_named name) value h in
    let points = point_digits-at rest in
    record {
      parts = record { sign = sign_of text; whole = front_digits number; fraction = fraction_at rest; unit = m.found };
      whole = front_digits-digits number;
      fraction = rw (← points) (point_digits-digits rest);
      some_digit = rw (← points) m.some_digit;
      text_is = text_by_sign text ∙ ap (λ (x : List ℕ). sign_text (sign_of text) ++ x) (text_by_digits number ∙ ap (λ (x : List ℕ). front_digits number ++ x) (text_by_fraction rest ∙ ap (λ (x : List ℕ). fraction_text (fraction_at rest) ++ x) (named_text name m.found m.unit_is)));
      value_is = m.value_is ∙ value_by_sign (is_negative text) (sign_of text) (front_digits number) (point_digits rest) (fraction_digits (fraction_at rest)) m.found (is_negative-sign_of text) points;
    }
