-- The text of a grid of pixels: a plain PBM file (Netpbm, plain PBM).
use Rattle.std.specs.Prelude.{◌==◌, ◌+◌, ◌%◌, ◌||◌, ◌++◌, ℕ, Bool, if◌then◌else◌, List, [], ◌∷◌, codes, decimal}
use Rattle.std.specs.List.{flat_map, range_with_len}
use Rattle.raster_core.specs.PixelGrids.{PixelGrid, is_black}

-- Whether a line ends after the digit of column x: after every seventieth digit of a row, and at the end of the row (Netpbm: no line is longer than
-- 70).
abbrev pub ends_line : (width x : ℕ) → Bool
ends_line width x = ((x + 1) % 70 == 0) || (x + 1 == width)

-- The digit of a pixel, 1 for black, and a line feed after it where a line ends (Netpbm, plain PBM).
abbrev pub digit_text : (black ends : Bool) → List ℕ
digit_text black ends = (if black then 49 else 48) ∷ (if ends then 10 ∷ [] else [])

-- The digits of a row, from the left (Netpbm, plain PBM).
unfoldable pub row_text : (width : ℕ) → (black : ℕ → Bool) → List ℕ
row_text width black = flat_map (λ x. digit_text (black x) (ends_line width x)) (range_with_len 0 width)

-- The digits of all rows, from the top (Netpbm, plain PBM).
unfoldable pub rows_text : (width height : ℕ) → (black : ℕ → ℕ → Bool) → List ℕ
rows_text width height black = flat_map (λ y. row_text width (λ x. black x y)) (range_with_len 0 height)

-- The header: P1, the width and the height (Netpbm, plain PBM).
abbrev pub header_text : (width height : ℕ) → List ℕ
header_text width height = codes "P1\n" ++ (decimal width ++ (codes " " ++ (decimal height ++ codes "\n")))

-- The text of a grid of pixels (Netpbm, plain PBM).
abbrev pub pbm : PixelGrid → List ℕ
pbm p = header_text p.width p.height ++ rows_text p.width p.height (is_black p)
