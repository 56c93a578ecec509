-- Grids of black and white pixels (own).
use Rattle.std.specs.Prelude.{◌&&◌, ◌||◌, ℕ, Bool, false, nat_le, List, [], map, slice_index_or}
use Rattle.std.specs.List.{range_with_len}

-- A grid: its size, and its rows from the top. A row has for each pixel, from the left, whether it is black (own).
pub record PixelGrid : Type 0 where
  pub width : ℕ
  pub height : ℕ
  pub rows : List (List Bool)

-- The grid of this size in which exactly these pixels, by column and row, are black (own).
unfoldable pub grid_of : (width height : ℕ) → (black : ℕ → ℕ → Bool) → PixelGrid
grid_of width height black =
    record { width = width; height = height; rows = map (λ y. map (λ x. black x y) (range_with_len 0 width)) (range_with_len 0 height) }

-- Whether the pixel of column x and row y is black; outside of the grid no pixel is (own).
unfoldable pub is_black : PixelGrid → (x y : ℕ) → Bool
is_black p x y = slice_index_or (slice_index_or p.rows y []) x false

-- The grid without a black pixel (own).
abbrev pub white : (width height : ℕ) → PixelGrid
white width height = grid_of width height (λ x y. false)

-- A grid after these pixels were made black, as far as they are within it (own).
abbrev pub painted_grid : (black : ℕ → ℕ → Bool) → PixelGrid → PixelGrid
painted_grid black p = grid_of p.width p.height (λ x y. is_black p x y || black x y)

-- Whether a bitmap may have this number of columns or rows (own).
abbrev pub is_size : ℕ → Bool
is_size n = nat_le 1 n && nat_le n 10000
