-- Pieces of the text of a row (own).
use Rattle.std.specs.Prelude.{◌+◌, ◌-◌, ◌*◌, ℕ, Bool, if◌then◌else◌, List, map, min}
use Rattle.std.specs.Int.{div_ceil}
use Rattle.std.specs.List.{flat_map, range_with_len}
use Rattle.raster_core.specs.PlainText.{digit_text, ends_line}

-- The digit of a pixel, 1 for black (own).
abbrev pub digit_of : Bool → ℕ
digit_of black = if black then 49 else 48

-- The digits of `count` columns of a row, from one on (own).
unfoldable pub digits : (black : ℕ → Bool) → (from count : ℕ) → List ℕ
digits black from count = map (λ x. digit_of (black x)) (range_with_len from count)

-- The text of `count` columns of a row, from one on (own).
unfoldable pub columns_text : (width : ℕ) → (black : ℕ → Bool) → (from count : ℕ) → List ℕ
columns_text width black from count = flat_map (λ x. digit_text (black x) (ends_line width x)) (range_with_len from count)

-- The text of a line of a row, counted from 0: of 70 columns, or of those that are left (own).
unfoldable pub line_text : (width : ℕ) → (black : ℕ → Bool) → (line : ℕ) → List ℕ
line_text width black line = columns_text width black (70 * line) (min (width - 70 * line) 70)

-- The size of the text of a row in bytes: its digits and the line feeds (own).
abbrev pub row_size : (width : ℕ) → ℕ
row_size width = width + div_ceil width 70
