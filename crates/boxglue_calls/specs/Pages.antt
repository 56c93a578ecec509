-- Listings and bitmaps of DVI files (own).
use Rattle.std.specs.Prelude.{◌≡◌, ◌⊎◌, ◌&&◌, ℕ, Bool, true, if◌then◌else◌, List, length, nat_le}
use Rattle.boxglue_print.specs.Outputs.{RefusesFile, ShowsPage}
use Rattle.raster_core.specs.PackedRows.{pixel_bytes}
use Rattle.raster_core.specs.PaintOptions.{PaintOptionsView, is_paintable, options_of}
use Rattle.raster_core.specs.PixelGrids.{PixelGrid}
use Rattle.tfm_core.specs.NamedBytes.{NamedBytes}
use Rattle.boxglue_calls.specs.Buffers.{HandsOver}

-- The status of a DVI file that was read: 0 where it is accepted, 1 where it is refused.
abbrev pub read_status : (accepted : Bool) → ℕ
read_status accepted = if accepted then 0 else 1

-- Whether the numbers of a page are in their ranges: the page 1 or more, the pixels an inch, width and height 1 to 10,000.
abbrev pub is_in_range : (page dpi width height : ℕ) → Bool
is_in_range page dpi width height = nat_le 1 dpi && is_paintable (options_of page dpi width height)

-- The text of a DVI file is handed over, and the size is its length.
pub record HandsOverPages (Is : (text : List ℕ) → (accepted : Bool) → Type 0) (old new : List ℕ) (size status : ℕ) : Type 0 where
  pub text : List ℕ
  pub accepted : Bool
  pub output : Is text accepted
  pub handed : HandsOver old new text (read_status accepted) status
  pub size_is : size ≡ length text

-- The bitmap of a page as bytes, eight pixels in each; or the line of the file's refusal. And whether the file was accepted.
abbrev pub IsPaintedInBits : List NamedBytes → List ℕ → PaintOptionsView → (bits : List ℕ) → (accepted : Bool) → Type 0
IsPaintedInBits files bytes options bits accepted =
    ((grid : PixelGrid) × ShowsPage files bytes options grid × (bits ≡ pixel_bytes grid) × (accepted ≡ true)) ⊎ RefusesFile files bytes bits accepted
