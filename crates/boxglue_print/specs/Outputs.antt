-- The texts that are printed for a DVI file (own).
use Rattle.std.specs.Prelude.{◌≡◌, ◌≢◌, ◌⊎◌, ◌<◌, ◌-◌, ℕ, Bool, true, false, List, length, slice_get, Some}
use Rattle.dvi_read.specs.Listing.{listing}
use Rattle.dvi_ops.specs.File.{IsFile, MarkedPage}
use Rattle.dvi_read.specs.Opened.{IsNoFile}
use Rattle.dvi_read.specs.Opening.{IsDviFault}
use Rattle.dvi_read.specs.declared.fault.DviFault.{DviFault}
use Rattle.dvi_read.specs.declared.fault.DviFault.TheVariants.{OutOfMemory}
use Rattle.raster_core.specs.PixelGrids.{PixelGrid, painted_grid, white}
use Rattle.raster_core.specs.Pixels.{is_covered, scale_of}
use Rattle.raster_core.specs.PlainText.{pbm}
use Rattle.raster_core.specs.PaintOptions.{PaintOptionsView}
use Rattle.tfm_core.specs.FileWidths.{file_widths}
use Rattle.tfm_core.specs.NamedBytes.{NamedBytes}
use Rattle.boxglue_print.specs.Faults.{fault_line}
use Rattle.boxglue_print.specs.declared.output.Painting.{Painting}
use Rattle.boxglue_print.specs.declared.output.Painting.TheVariants.{Painted, Refusal}

-- The bytes are a file, and the text lists its pages.
pub record Lists (files : List NamedBytes) (bytes text : List ℕ) (accepted : Bool) : Type 0 where
  pub pages : List MarkedPage
  pub file : IsFile (file_widths files) bytes pages
  pub text_is : text ≡ listing pages
  pub accepted_is : accepted ≡ true

-- The bytes are no file, and the text is the line of a refusal that names a rule that they break.
pub record RefusesFile (files : List NamedBytes) (bytes text : List ℕ) (accepted : Bool) : Type 0 where
  pub fault : DviFault
  pub other : fault ≢ OutOfMemory
  pub broken : IsDviFault files bytes fault
  pub none : IsNoFile files bytes
  pub text_is : text ≡ fault_line fault
  pub accepted_is : accepted ≡ false

-- The bytes are a file with this page, counted from 1, and the text is its bitmap: its rules black, the rest white.
pub record Paints (files : List NamedBytes) (bytes : List ℕ) (options : PaintOptionsView) (text : List ℕ) (accepted : Bool) : Type 0 where
  pub pages : List MarkedPage
  pub file : IsFile (file_widths files) bytes pages
  pub shown : MarkedPage
  pub page_is : slice_get pages (options.page - 1) ≡ Some shown
  pub text_is : text
      ≡ pbm (painted_grid (is_covered (scale_of file.frame.postamble.units options.dpi) shown.marks) (white options.width options.height))
  pub accepted_is : accepted ≡ true

-- The bytes are a file with this page, counted from 1, and the grid is its bitmap: its rules black, the rest white.
pub record ShowsPage (files : List NamedBytes) (bytes : List ℕ) (options : PaintOptionsView) (grid : PixelGrid) : Type 0 where
  pub pages : List MarkedPage
  pub file : IsFile (file_widths files) bytes pages
  pub shown : MarkedPage
  pub page_is : slice_get pages (options.page - 1) ≡ Some shown
  pub grid_is : grid ≡ painted_grid (is_covered (scale_of file.frame.postamble.units options.dpi) shown.marks) (white options.width options.height)

-- The bytes are a file that has no such page.
pub record LacksPage (files : List NamedBytes) (bytes : List ℕ) (page : ℕ) : Type 0 where
  pub pages : List MarkedPage
  pub file : IsFile (file_widths files) bytes pages
  pub few : length pages < page

-- The text that `list` prints, and whether the file was accepted.
abbrev pub IsListed : List NamedBytes → List ℕ → (text : List ℕ) → (accepted : Bool) → Type 0
IsListed files bytes text accepted = Lists files bytes text accepted ⊎ RefusesFile files bytes text accepted

-- The text that `paint` prints, and whether the file was accepted.
abbrev pub IsPainted : List NamedBytes → List ℕ → PaintOptionsView → (text : List ℕ) → (accepted : Bool) → Type 0
IsPainted files bytes options text accepted = Paints files bytes options text accepted ⊎ RefusesFile files bytes text accepted

-- The bitmap of a page, from which its text is made; or the text of the file's refusal.
abbrev pub IsPainting : List NamedBytes → List ℕ → PaintOptionsView → Painting → Type 0
IsPainting files bytes options (Painted grid) = Paints files bytes options (pbm grid) true
IsPainting files bytes options (Refusal text) = RefusesFile files bytes text.items false

-- The bitmap of a page, by its pixels; or the text of the file's refusal.
abbrev pub IsPageBitmap : List NamedBytes → List ℕ → PaintOptionsView → Painting → Type 0
IsPageBitmap files bytes options (Painted grid) = ShowsPage files bytes options grid
IsPageBitmap files bytes options (Refusal text) = RefusesFile files bytes text.items false
