-- Texts of dimensions and their values (TeX: The Program, part 7, §102, and part 26, §448 to §458, scan_dimen).
use Rattle.std.specs.Prelude.{◌≡◌, ℕ, ℤ, pos, neg_ℤ, ◌+◌, ◌*◌, ◌^◌, ◌<◌, IsTrue, List, [], ◌++◌, Option, None, Some, codes, length, take}
use Rattle.std.specs.Str.{all_ascii_digits}
use Rattle.std.specs.Str.Parse.{digits_value}
use Rattle.scaled_core.specs.declared.units.LengthUnit.{LengthUnit}
use Rattle.scaled_core.specs.Dimensions.{Fits}
use Rattle.scaled_core.specs.Rounding.{nearest}
use Rattle.scaled_core.specs.Units.{unit_text, scaled_points}

-- The fraction 0.DIGITS in 65536ths, rounded to the nearest, halves upward (TeX: The Program, part 7, §102, round_decimals). Digits after the 17th do
-- not count (TeX: The Program, part 26, §452).
unfoldable pub decimal_fraction : List ℕ → ℕ
decimal_fraction digits = nearest (digits_value 10 (take 17 digits) * 65536) (10 ^ length (take 17 digits))

-- The sign of a dimension text, if there is one (TeX: The Program, part 26, §441).
pub data Sign : Type 0 where
  unsigned : Sign
  plus : Sign
  minus : Sign

-- How a sign is written (TeX: The Program, part 26, §441).
abbrev pub sign_text : Sign → List ℕ
sign_text unsigned = []
sign_text plus = codes "+"
sign_text minus = codes "-"

-- The number with this sign and absolute value (own).
abbrev pub with_sign : Sign → ℕ → ℤ
with_sign unsigned n = pos n
with_sign plus n = pos n
with_sign minus n = neg_ℤ (pos n)

-- The parts of a dimension text; without a fraction there is no point (TeX: The Program, part 26, §448).
pub record DimensionParts : Type 0 where
  pub sign : Sign
  pub whole : List ℕ
  pub fraction : Option (List ℕ)
  pub unit : LengthUnit

-- The digits after the point, if there is one (own).
abbrev pub fraction_digits : Option (List ℕ) → List ℕ
fraction_digits None = []
fraction_digits (Some digits) = digits

-- The point and the digits after it (TeX: The Program, part 26, §452).
abbrev pub fraction_text : Option (List ℕ) → List ℕ
fraction_text None = []
fraction_text (Some digits) = codes "." ++ digits

-- The text with these parts (TeX: The Program, part 26, §448).
abbrev pub parts_text : DimensionParts → List ℕ
parts_text p = sign_text p.sign ++ (p.whole ++ (fraction_text p.fraction ++ unit_text p.unit))

-- The number of scaled points that the parts write (TeX: The Program, part 26, §448).
abbrev pub parts_value : DimensionParts → ℤ
parts_value p = with_sign p.sign (scaled_points p.unit (digits_value 10 p.whole) (decimal_fraction (fraction_digits p.fraction)))

-- The text writes a dimension of this number of scaled points, which may be too large to fit: an optional sign, digits with at most one point among
-- them and at least one digit, and a unit with no space before it (TeX: The Program, part 26, §448, scan_dimen; that no space, comma, second sign or
-- other unit is taken is own).
pub record IsDimensionText (text : List ℕ) (value : ℤ) : Type 0 where
  pub parts : DimensionParts
  pub whole : IsTrue (all_ascii_digits parts.whole)
  pub fraction : IsTrue (all_ascii_digits (fraction_digits parts.fraction))
  pub some_digit : 0 < length parts.whole + length (fraction_digits parts.fraction)
  pub text_is : text ≡ parts_text parts
  pub value_is : value ≡ parts_value parts

-- The text writes a dimension that does not fit (own).
pub record IsTooLargeText (text : List ℕ) : Type 0 where
  pub value : ℤ
  pub written : IsDimensionText text value
  pub misfit : Fits value → ⊥

-- The text writes no dimension (own).
abbrev pub IsNoDimension : List ℕ → Type 0
IsNoDimension text = (value : ℤ) → IsDimensionText text value → ⊥
