-- The grid that a bitmap shows (own).
use Rattle.std.specs.Prelude.{◌≤◌, ◌*◌, length}
use Rattle.std.specs.Box.{boxed_slice_items}
use Rattle.raster_core.specs.Words.{in_rows}
use Rattle.raster_core.specs.PixelGrids.{PixelGrid, grid_of}
use Rattle.raster_core.specs.declared.painting.Bitmap.TheInside.{Inside}

-- The grid that a bitmap shows. Its rows have as many words as its mask (own).
abbrev pub pixels_of : Inside → PixelGrid
pixels_of b = grid_of b.width b.height (in_rows (boxed_slice_items b.words) (length (boxed_slice_items b.mask)))

-- The words have space for the pixels, at most 157 of them a row, and `full` has 192 bits a row for these words (own).
pub record IsBitmap (b : Inside) : Type 0 where
  pub some_columns : 1 ≤ b.width
  pub some_rows : 1 ≤ b.height
  pub narrow : b.width ≤ 10000
  pub columns : b.width ≤ 64 * length (boxed_slice_items b.mask)
  pub rows : b.height * length (boxed_slice_items b.mask) ≤ length (boxed_slice_items b.words)
  pub full_rows : b.height * 3 ≤ length (boxed_slice_items b.full)
  pub few_columns : length (boxed_slice_items b.mask) ≤ 157
  pub few_rows : b.height ≤ 10000
