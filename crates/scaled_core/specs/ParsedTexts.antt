-- The value of a text as a function that takes its parts from left to right (own, after TeX: The Program, part 26, §448, scan_dimen).
use Rattle.std.specs.Prelude.{◌==◌, ℕ, ℤ, pos, neg_ℤ, Bool, true, false, ◌&&◌, if◌then◌else◌, List, [], ◌∷◌, Option, None, Some, Result, Ok, Err}
use Rattle.std.specs.Prelude.{length, drop, option_map}
use Rattle.std.specs.List.{find, prefix_len, take_while}
use Rattle.std.specs.Char.{is_ascii_digit}
use Rattle.std.specs.Str.{bytes_eq}
use Rattle.std.specs.Str.Parse.{digits_value}
use Rattle.scaled_core.specs.declared.units.LengthUnit.{LengthUnit}
use Rattle.scaled_core.specs.declared.units.LengthUnit.TheVariants.{Point, Inch, Pica, Centimeter, Millimeter, BigPoint, DidotPoint, Cicero}
use Rattle.scaled_core.specs.declared.units.LengthUnit.TheVariants.{ScaledPoint}
use Rattle.scaled_core.specs.declared.fault.DimenFault.{DimenFault}
use Rattle.scaled_core.specs.declared.fault.DimenFault.TheVariants.{TooLarge, NotADimension}
use Rattle.scaled_core.specs.Dimensions.{fits}
use Rattle.scaled_core.specs.DimensionTexts.{decimal_fraction}
use Rattle.scaled_core.specs.Units.{scaled_points, unit_text}

-- All units (TeX: The Program, part 26, §453 and §458).
abbrev pub units : List LengthUnit
units = Point ∷ Inch ∷ Pica ∷ Centimeter ∷ Millimeter ∷ BigPoint ∷ DidotPoint ∷ Cicero ∷ ScaledPoint ∷ []

-- The unit with this text, if there is one (TeX: The Program, part 26, §453 and §458).
unfoldable pub unit_named : List ℕ → Option LengthUnit
unit_named text = find (λ u. bytes_eq text (unit_text u)) units

-- The text begins with a minus (own).
unfoldable pub is_negative : List ℕ → Bool
is_negative [] = false
is_negative (c ∷ cs) = c == 45

-- The text after an optional sign (own).
unfoldable pub text_after_sign : List ℕ → List ℕ
text_after_sign [] = []
text_after_sign (c ∷ cs) = if c == 45 then cs else (if c == 43 then cs else c ∷ cs)

-- The digits at the beginning of the text (own).
unfoldable pub front_digits : List ℕ → List ℕ
front_digits text = take_while is_ascii_digit text

-- The text after the digits at its beginning (own).
unfoldable pub text_after_digits : List ℕ → List ℕ
text_after_digits text = drop (prefix_len is_ascii_digit text) text

-- The digits after a point at the beginning of the text, or none (own).
unfoldable pub point_digits : List ℕ → List ℕ
point_digits [] = []
point_digits (c ∷ cs) = if c == 46 then front_digits cs else []

-- The text after an optional point and its digits (own).
unfoldable pub text_after_fraction : List ℕ → List ℕ
text_after_fraction [] = []
text_after_fraction (c ∷ cs) = if c == 46 then text_after_digits cs else c ∷ cs

-- The number of this size, negative or not (own).
abbrev pub with_minus : Bool → ℕ → ℤ
with_minus true n = neg_ℤ (pos n)
with_minus false n = pos n

-- The value of a number with this sign, these digits before and after the point, and this unit; none if there is no digit or no unit (TeX: The
-- Program, part 26, §448).
unfoldable pub written_value : Bool → List ℕ → List ℕ → Option LengthUnit → Option ℤ
written_value negative whole fraction unit =
    if (length whole == 0) && (length fraction == 0) then None
    else option_map (λ u. with_minus negative (scaled_points u (digits_value 10 whole) (decimal_fraction fraction))) unit

-- The number of scaled points that a dimension text writes; none exactly when the text is no dimension (TeX: The Program, part 26, §448, scan_dimen).
unfoldable pub dimension_value : List ℕ → Option ℤ
dimension_value text =
    let number = text_after_sign text in
    written_value (is_negative text) (front_digits number) (point_digits (text_after_digits number))
    (unit_named (text_after_fraction (text_after_digits number)))

-- The dimension of a value, or why there is none: no value, or a value that does not fit (own).
unfoldable pub parsed_value : Option ℤ → Result ℤ DimenFault
parsed_value None = Err NotADimension
parsed_value (Some value) = if fits value then Ok value else Err TooLarge

-- What reading a text returns: its dimension, or why there is none (own).
unfoldable pub read_dimension : List ℕ → Result ℤ DimenFault
read_dimension text = parsed_value (dimension_value text)
