-- Three kinds of fields, of which no field has two: words, numbers, and sizes or amounts.
use Rattle.std.proofs.Common.{◌≡◌, inl, inr, ◌==◌, ℕ, ℤ, pos, ◌<◌, ◌+◌, Bool, true, false, not, ◌&&◌, if◌then◌else◌, List, [], ◌∷◌, ◌++◌, Option, Some, None, codes, length, refl, ◌∙◌, arith, nat_lt}
use Rattle.std.specs.List.{list_all, Contains}
use Rattle.std.specs.Char.{is_ascii_digit}
use Rattle.std.specs.Str.{all_ascii_digits}
use Rattle.std.specs.Str.Parse.{IsNumeral, AllDigits, without_leading_sign}
use Rattle.std.proofs.lemmas.Bool.{lt-ltb, eqb-true}
use Rattle.std.proofs.lemmas.List.Elements.{All-contains}
use Rattle.std.proofs.lemmas.List.Folds.{list_all-append}
use Rattle.std.proofs.lemmas.List.Sums.{AllPass-from_list_all}
use Rattle.std.proofs.lemmas.Str.Parse.{digit_from_value}
use Rattle.scaled_core.specs.declared.units.LengthUnit.{LengthUnit}
use Rattle.scaled_core.specs.declared.units.LengthUnit.TheVariants.{Point, Inch, Pica, Centimeter, Millimeter, BigPoint, DidotPoint, Cicero, ScaledPoint}
use Rattle.scaled_core.specs.Units.{unit_text}
use Rattle.scaled_core.specs.DimensionTexts.{Sign, unsigned, plus, minus, DimensionParts, sign_text, fraction_digits, fraction_text, parts_text, IsDimensionText}
use Rattle.scaled_core.proofs.DigitLemmas.{digit_code}
use Rattle.node_core.specs.declared.tree.Order.{Order}
use Rattle.node_core.specs.declared.tree.Order.TheVariants.{Normal, Fil, Fill, Filll}
use Rattle.node_core.specs.declared.tree.RuleSize.{RuleSize}
use Rattle.node_core.specs.declared.tree.RuleSize.TheVariants.{Running, Fixed}
use Rattle.boxglue_script.specs.declared.cause.Cause.{Cause}
use Rattle.boxglue_script.specs.declared.cause.Cause.TheVariants.{Word, Number, Dimension}
use Rattle.boxglue_script.specs.Grammar.{IsInteger, IsDimension, IsAmount, IsRuleSizeField}
use Rattle.boxglue_script.specs.Causes.{inner_words, IsInnerWord, GivesNumber, GivesSizeOfFont, GivesSize}
use Rattle.boxglue_script.proofs.Numbers.{and_parts}

-- The first byte comes before the small letters.
abbrev pub begins_low : List ℕ → Bool
begins_low [] = false
begins_low (byte ∷ field) = nat_lt byte 97

-- A byte after `*` and before the small letters, as digits and signs are.
abbrev pub is_plain : ℕ → Bool
is_plain byte = nat_lt 42 byte && nat_lt byte 97

-- The kind of a field, named by the cause of a bad field where one of this kind belongs.
abbrev pub kind_of : List ℕ → Cause
kind_of field = if begins_low field then (if list_all is_plain field then Number else Dimension) else Word

plain_byte : (c : ℕ) → 42 < c → c < 97 → is_plain c ≡ true
plain_byte c low high = rw (lt-ltb 42 c low, lt-ltb c 97 high) refl

digits_plain : (digits : List ℕ) → AllDigits 10 digits → list_all is_plain digits ≡ true
digits_plain [] h = refl
digits_plain (c ∷ digits) h = rw (plain_byte c (omega (arith, digit_from_value c h.0)) (omega (arith, digit_from_value c h.0))) (digits_plain digits h.1)

plain_number : (c : ℕ) (cs : List ℕ) → 42 < c → c < 97 → list_all is_plain cs ≡ true → kind_of (c ∷ cs) ≡ Number
plain_number c cs low high rest = rw (lt-ltb c 97 high, lt-ltb 42 c low, rest) refl

signed_kind : (c : ℕ) (cs : List ℕ) (below above : Bool) → (c == 45) ≡ below → (c == 43) ≡ above → IsNumeral 10 (without_leading_sign (c ∷ cs)) → kind_of (c ∷ cs) ≡ Number
signed_kind c cs true above m p h =
    let rest : IsNumeral 10 cs = rw m at h in
    plain_number c cs (omega (arith, eqb-true c 45 m)) (omega (arith, eqb-true c 45 m)) (digits_plain cs rest.1)
signed_kind c cs false true m p h =
    let rest : IsNumeral 10 cs = rw (m, p) at h in
    plain_number c cs (omega (arith, eqb-true c 43 p)) (omega (arith, eqb-true c 43 p)) (digits_plain cs rest.1)
signed_kind c cs false false m p h =
    let all : IsNumeral 10 (c ∷ cs) = rw (m, p) at h in
    plain_number c cs (omega (arith, digit_from_value c all.1.0)) (omega (arith, digit_from_value c all.1.0)) (digits_plain cs all.1.1)

pub integer_kind : (field : List ℕ) (z : ℤ) → IsInteger field z → kind_of field ≡ Number
integer_kind [] z h = absurd (omega (arith, h.digits.0))
integer_kind (c ∷ cs) z h = signed_kind c cs (c == 45) (c == 43) refl refl h.digits

and_no : (b c : Bool) → c ≡ false → (b && c) ≡ false
and_no true c h = h
and_no false c h = refl

-- A text that ends with a byte that is not plain.
unplain_end : (front unit : List ℕ) → list_all is_plain unit ≡ false → list_all is_plain (front ++ unit) ≡ false
unplain_end front unit h = list_all-append is_plain front unit ∙ and_no (list_all is_plain front) (list_all is_plain unit) h

unit_unplain : (unit : LengthUnit) → list_all is_plain (unit_text unit) ≡ false
unit_unplain Point = refl
unit_unplain Inch = refl
unit_unplain Pica = refl
unit_unplain Centimeter = refl
unit_unplain Millimeter = refl
unit_unplain BigPoint = refl
unit_unplain DidotPoint = refl
unit_unplain Cicero = refl
unit_unplain ScaledPoint = refl

parts_unplain : (p : DimensionParts) → list_all is_plain (parts_text p) ≡ false
parts_unplain p =
    unplain_end (sign_text p.sign) (p.whole ++ (fraction_text p.fraction ++ unit_text p.unit))
    (unplain_end p.whole (fraction_text p.fraction ++ unit_text p.unit)
    (unplain_end (fraction_text p.fraction) (unit_text p.unit) (unit_unplain p.unit)))

digit_low : (c : ℕ) → is_ascii_digit c ≡ true → nat_lt c 97 ≡ true
digit_low c h = lt-ltb c 97 (omega (arith, digit_code c h))

parts_low : (sign : Sign) (whole : List ℕ) (fraction : Option (List ℕ)) (unit : List ℕ) → all_ascii_digits whole ≡ true → 0 < length whole + length (fraction_digits fraction)
    → begins_low (sign_text sign ++ (whole ++ (fraction_text fraction ++ unit))) ≡ true
parts_low unsigned [] None unit digits some = absurd (omega (arith, some))
parts_low unsigned [] (Some more) unit digits some = refl
parts_low unsigned (c ∷ whole) fraction unit digits some = digit_low c (and_parts (is_ascii_digit c) (all_ascii_digits whole) digits).0
parts_low plus whole fraction unit digits some = refl
parts_low minus whole fraction unit digits some = refl

dimension_low : (field : List ℕ) (z : ℤ) → IsDimensionText field z → begins_low field ≡ true
dimension_low field z h = rw h.text_is (parts_low h.parts.sign h.parts.whole h.parts.fraction (unit_text h.parts.unit) h.whole h.some_digit)

dimension_unplain : (field : List ℕ) (z : ℤ) → IsDimensionText field z → list_all is_plain field ≡ false
dimension_unplain field z h = rw h.text_is (parts_unplain h.parts)

unplain_kind : (field : List ℕ) → begins_low field ≡ true → list_all is_plain field ≡ false → kind_of field ≡ Dimension
unplain_kind field low high = rw (low, high) refl

pub dimension_kind : (field : List ℕ) (z : ℤ) → IsDimension field z → kind_of field ≡ Dimension
dimension_kind field z h = unplain_kind field (dimension_low field z h.text) (dimension_unplain field z h.text)

-- A number with a unit of its own.
number_kind : (unit number : List ℕ) (z : ℤ) → list_all is_plain unit ≡ false → IsDimension (number ++ codes "pt") z → kind_of (number ++ unit) ≡ Dimension
number_kind unit [] z h is = let low : false ≡ true = dimension_low (codes "pt") z is.text in absurd (cc)
number_kind unit (c ∷ number) z h is = unplain_kind (c ∷ (number ++ unit)) (dimension_low (c ∷ (number ++ codes "pt")) z is.text) (unplain_end (c ∷ number) unit h)

pub amount_kind : (field : List ℕ) (order : Order) (z : ℤ) → IsAmount field order z → kind_of field ≡ Dimension
amount_kind field Normal z h = dimension_kind field z h
amount_kind field Fil z (number, e, is) = rw e (number_kind (codes "fil") number z refl is)
amount_kind field Fill z (number, e, is) = rw e (number_kind (codes "fill") number z refl is)
amount_kind field Filll z (number, e, is) = rw e (number_kind (codes "filll") number z refl is)

pub size_kind : (field : List ℕ) (size : RuleSize) → IsRuleSizeField field size → kind_of field ≡ Dimension
size_kind field Running h = rw h refl
size_kind field (Fixed z) h = dimension_kind field z h

pub gives_number_kind : (field : List ℕ) → GivesNumber field → kind_of field ≡ Number
gives_number_kind field (n, inl h) = integer_kind field (pos n) h.written
gives_number_kind field (n, inr (inl h)) = integer_kind field (pos n) h.written
gives_number_kind field (n, inr (inr h)) = integer_kind field (pos n) h.written

pub gives_size_kind : (field : List ℕ) → GivesSize field → kind_of field ≡ Dimension
gives_size_kind field (size, h) = size_kind field size h

pub gives_font_size_kind : (field : List ℕ) → GivesSizeOfFont field → kind_of field ≡ Dimension
gives_font_size_kind field (z, h) = dimension_kind field z h.dimension

high_by : (b : Bool) → not b ≡ true → b ≡ false
high_by false h = refl
high_by true h = absurd (cc)

-- A field whose first byte does not come before the small letters is a word.
pub high_kind : (field : List ℕ) → not (begins_low field) ≡ true → kind_of field ≡ Word
high_kind field h = rw (high_by (begins_low field) h) refl

word_among : (words : List (List ℕ)) (field : List ℕ) → Contains words field → list_all (λ word. not (begins_low word)) words ≡ true → kind_of field ≡ Word
word_among words field h all =
    high_kind field (All-contains (λ (word : List ℕ). not (begins_low word) ≡ true) words field (AllPass-from_list_all (λ word. not (begins_low word)) words all) h)

pub inner_word_kind : (field : List ℕ) → IsInnerWord field → kind_of field ≡ Word
inner_word_kind field h = word_among inner_words field h refl
