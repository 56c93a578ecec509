-- The pixels of a grid as bytes: the raster of a raw PBM file (Netpbm, PBM).
use Rattle.std.specs.Prelude.{◌+◌, ◌*◌, ℕ, Bool, if◌then◌else◌, List, map}
use Rattle.std.specs.Int.{div_ceil}
use Rattle.std.specs.List.{flat_map, range_with_len}
use Rattle.raster_core.specs.PixelGrids.{PixelGrid, is_black}

-- The value of a pixel's bit: a bit of this value for black, 0 for white (Netpbm, PBM).
abbrev pub bit_value : Bool → (value : ℕ) → ℕ
bit_value black value = if black then value else 0

-- The byte of the eight pixels from column x on: the leftmost has the highest bit (Netpbm, PBM).
unfoldable pub packed_byte : (black : ℕ → Bool) → (x : ℕ) → ℕ
packed_byte black x =
    bit_value (black x) 128 + bit_value (black (x + 1)) 64 + bit_value (black (x + 2)) 32 + bit_value (black (x + 3)) 16
    + bit_value (black (x + 4)) 8 + bit_value (black (x + 5)) 4 + bit_value (black (x + 6)) 2 + bit_value (black (x + 7)) 1

-- The bytes of a row, from the left: as many as its columns need (Netpbm, PBM).
unfoldable pub packed_row : (width : ℕ) → (black : ℕ → Bool) → List ℕ
packed_row width black = map (λ k. packed_byte black (8 * k)) (range_with_len 0 (div_ceil width 8))

-- The bytes of all rows, from the top (Netpbm, PBM).
unfoldable pub packed_rows : (width height : ℕ) → (black : ℕ → ℕ → Bool) → List ℕ
packed_rows width height black = flat_map (λ y. packed_row width (λ x. black x y)) (range_with_len 0 height)

-- The bytes of a grid. The bits after the last column are 0, since no pixel there is black (Netpbm, PBM; own: it allows any).
abbrev pub pixel_bytes : PixelGrid → List ℕ
pixel_bytes p = packed_rows p.width p.height (is_black p)
