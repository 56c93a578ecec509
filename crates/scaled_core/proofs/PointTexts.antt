-- Texts of points without a unit have the same parts with `pt` after them.
use Rattle.std.proofs.Common.{◌≡◌, ℕ, ◌==◌, ◌<◌, Bool, true, false, ◌&&◌, List, [], ◌∷◌, ◌++◌, length, take, drop, refl, ap, sym, ◌∙◌, arith, None, Some}
use Rattle.std.specs.Prelude.{codes, if◌then◌else◌}
use Rattle.std.specs.List.{prefix_len}
use Rattle.std.specs.Char.{is_ascii_digit}
use Rattle.std.specs.Str.{bytes_eq}
use Rattle.std.proofs.Common.{length-append}
use Rattle.std.proofs.Math.Numerals.{one-add}
use Rattle.scaled_core.specs.declared.units.LengthUnit.TheVariants.{Point}
use Rattle.scaled_core.specs.ParsedTexts.{unit_named, is_negative, text_after_sign, front_digits, text_after_digits, point_digits, text_after_fraction, parsed_value, written_value, dimension_value, read_dimension}

-- The unit that is left out.
abbrev pt : List ℕ
pt = codes "pt"

if-append : (b : Bool) (xs ys zs : List ℕ) → (if b then xs ++ zs else ys ++ zs) ≡ (if b then xs else ys) ++ zs
if-append true xs ys zs = refl
if-append false xs ys zs = refl

is_negative-points : (text : List ℕ) → is_negative (text ++ pt) ≡ is_negative text
unfolding is_negative
is_negative-points [] = refl
is_negative-points (c ∷ cs) = refl

text_after_sign-points : (text : List ℕ) → text_after_sign (text ++ pt) ≡ text_after_sign text ++ pt
unfolding text_after_sign
text_after_sign-points [] = refl
text_after_sign-points (c ∷ cs) =
    ap (λ (xs : List ℕ). if c == 45 then cs ++ pt else xs) (if-append (c == 43) cs (c ∷ cs) pt)
    ∙ if-append (c == 45) cs (if c == 43 then cs else c ∷ cs) pt

-- The digits at the beginning do not change.
front_step : (c : ℕ) (cs : List ℕ) (b : Bool) → is_ascii_digit c ≡ b
    → take (prefix_len is_ascii_digit (cs ++ pt)) (cs ++ pt) ≡ take (prefix_len is_ascii_digit cs) cs
    → take (prefix_len is_ascii_digit (c ∷ cs ++ pt)) (c ∷ cs ++ pt) ≡ take (prefix_len is_ascii_digit (c ∷ cs)) (c ∷ cs)
front_step c cs true e rest = rw (e, one-add (prefix_len is_ascii_digit (cs ++ pt)), one-add (prefix_len is_ascii_digit cs)) (ap (λ (xs : List ℕ). c ∷ xs) rest)
front_step c cs false e rest = rw e refl

after_step : (c : ℕ) (cs : List ℕ) (b : Bool) → is_ascii_digit c ≡ b
    → drop (prefix_len is_ascii_digit (cs ++ pt)) (cs ++ pt) ≡ drop (prefix_len is_ascii_digit cs) cs ++ pt
    → drop (prefix_len is_ascii_digit (c ∷ cs ++ pt)) (c ∷ cs ++ pt) ≡ drop (prefix_len is_ascii_digit (c ∷ cs)) (c ∷ cs) ++ pt
after_step c cs true e rest = rw (e, one-add (prefix_len is_ascii_digit (cs ++ pt)), one-add (prefix_len is_ascii_digit cs)) rest
after_step c cs false e rest = rw e refl

front_digits-points : (text : List ℕ) → front_digits (text ++ pt) ≡ front_digits text
unfolding front_digits
front_digits-points [] = refl
front_digits-points (c ∷ cs) = front_step c cs (is_ascii_digit c) refl (front_digits-points cs)

text_after_digits-points : (text : List ℕ) → text_after_digits (text ++ pt) ≡ text_after_digits text ++ pt
unfolding text_after_digits
text_after_digits-points [] = refl
text_after_digits-points (c ∷ cs) = after_step c cs (is_ascii_digit c) refl (text_after_digits-points cs)

point_digits-points : (text : List ℕ) → point_digits (text ++ pt) ≡ point_digits text
unfolding point_digits
point_digits-points [] = refl
point_digits-points (c ∷ cs) = ap (λ (xs : List ℕ). if c == 46 then xs else []) (front_digits-points cs)

text_after_fraction-points : (text : List ℕ) → text_after_fraction (text ++ pt) ≡ text_after_fraction text ++ pt
unfolding text_after_fraction
text_after_fraction-points [] = refl
text_after_fraction-points (c ∷ cs) =
    ap (λ (xs : List ℕ). if c == 46 then xs else c ∷ cs ++ pt) (text_after_digits-points cs) ∙ if-append (c == 46) (text_after_digits cs) (c ∷ cs) pt

-- No unit has more than two letters.
and_false : (a b : Bool) → (a && (b && false)) ≡ false
and_false true true = refl
and_false true false = refl
and_false false b = refl

longer : (a b c : ℕ) (rest : List ℕ) (y z : ℕ) → bytes_eq (a ∷ b ∷ c ∷ rest) (y ∷ z ∷ []) ≡ false
longer a b c rest y z = and_false (a == y) (b == z)

not_unit : (text : List ℕ) → 2 < length text → unit_named text ≡ None
unfolding unit_named
not_unit [] long = absurd (omega (arith, long))
not_unit (a ∷ []) long = absurd (omega (arith, long))
not_unit (a ∷ b ∷ []) long = absurd (omega (arith, long))
not_unit (a ∷ b ∷ c ∷ rest) long = simp longer

-- Anything in the place of the unit that is left out, with `pt` after it, is no unit.
pub no_unit : (name : List ℕ) → 0 < length name → None ≡ unit_named (name ++ codes "pt")
no_unit name some = sym (not_unit (name ++ pt) (omega (arith, some, length-append name pt)))

pub the_unit : (name : List ℕ) → length name ≡ 0 → Some Point ≡ unit_named (name ++ codes "pt")
unfolding unit_named
the_unit [] none = refl
the_unit (c ∷ cs) none = absurd (omega (arith, none))

-- The parts of such a text give its value.
pub read_dimension-points : (text : List ℕ) → read_dimension (text ++ codes "pt")
    ≡ parsed_value (written_value (is_negative text) (front_digits (text_after_sign text)) (point_digits (text_after_digits (text_after_sign text))) (unit_named (text_after_fraction (text_after_digits (text_after_sign text)) ++ codes "pt")))
unfolding read_dimension dimension_value
read_dimension-points text =
    rw (is_negative-points text, text_after_sign-points text, front_digits-points (text_after_sign text), text_after_digits-points (text_after_sign text), point_digits-points (text_after_digits (text_after_sign text)), text_after_fraction-points (text_after_digits (text_after_sign text))) refl

pub ruleset points = (no_unit, the_unit)
