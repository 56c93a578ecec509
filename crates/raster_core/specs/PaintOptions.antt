-- How a page is painted (own).
use Rattle.std.specs.Prelude.{◌&&◌, ℕ, Bool, nat_le}
use Rattle.raster_core.specs.PixelGrids.{is_size}

-- How a page is painted: its number, counted from 1; the pixels an inch; and the width and the height of the bitmap in pixels.
pub record PaintOptionsView : Type 0 where
  pub page : ℕ
  pub dpi : ℕ
  pub width : ℕ
  pub height : ℕ

-- These four numbers, in that order.
abbrev pub options_of : (page dpi width height : ℕ) → PaintOptionsView
options_of page dpi width height = record { page = page; dpi = dpi; width = width; height = height }

-- Whether a page can be painted so: its number is 1 or more, there are at most 10,000 pixels an inch, and the bitmap may have this size.
abbrev pub is_paintable : PaintOptionsView → Bool
is_paintable options = nat_le 1 options.page && (nat_le options.dpi 10000 && (is_size options.width && is_size options.height))
