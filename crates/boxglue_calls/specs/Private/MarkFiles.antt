-- A file whose marks are read, as the code hands it over (own).
use Rattle.std.specs.Prelude.{◌≡◌, ◌≢◌, ◌≤◌, ◌*◌, ◌++◌, ℕ, List, false, length}
use Rattle.dvi_ops.specs.File.{IsFile, MarkedPage}
use Rattle.dvi_ops.specs.Fonts.{definitions}
use Rattle.dvi_ops.specs.Tokens.{token_instructions}
use Rattle.dvi_ops.specs.View.{units as view_units}
use Rattle.dvi_ops.specs.declared.op.Units.{Units as UnitsOf}
use Rattle.dvi_read.specs.PageMarks.{HasGlyphWidths, HasSpaceFor, marks_of, text_places}
use Rattle.dvi_read.specs.Seen.{seen_of}
use Rattle.dvi_read.specs.ItemsLeft.{HasCheckedPages, HasCheckedTexts, AreItemsLeft}
use Rattle.dvi_read.specs.declared.fault.DviFault.{DviFault}
use Rattle.dvi_read.specs.declared.fault.DviFault.TheVariants.{Bad, OutOfMemory}
use Rattle.dvi_read.specs.declared.seen_items.SeenItems.{SeenItems}
use Rattle.tfm_core.specs.FileWidths.{file_widths}
use Rattle.tfm_core.specs.NamedBytes.{NamedBytes}
use Rattle.boxglue_print.specs.Faults.{fault_line}
use Rattle.boxglue_print.specs.Outputs.{RefusesFile}
use Rattle.boxglue_calls.specs.MarkTables.{HandsOverMarks, MarkOutputs}
use Rattle.boxglue_calls.specs.declared.mark_table.MarkSizes.{MarkSizes}

-- The place of a broken rule, or 0 for another fault.
abbrev pub place_of : DviFault → ℕ
place_of (Bad bad) = bad.place
place_of fault = 0

-- The bytes are a file of these pages, with these units; its pages are still to be seen, and its glyphs have the widths of the files.
pub record IsChecked (files : List NamedBytes) (bytes : List ℕ) (units : UnitsOf) (s : SeenItems) (pages : List MarkedPage) : Type 0 where
  pub file : IsFile (file_widths files) bytes pages
  pub units_are : view_units units ≡ file.frame.postamble.units
  pub remaining : AreItemsLeft s (seen_of pages)
  pub all : HasCheckedPages s.file.now pages
  pub texts : HasCheckedTexts s.file.now (text_places 0 file.frame.front)
  pub begun : s.at ≡ s.file.now.from
  pub bytes_are : s.file.now.bytes.now ≡ bytes
  pub widths : HasGlyphWidths (file_widths files) (definitions (token_instructions file.frame.front ++ token_instructions file.frame.tail))
      s.file.now.fonts (marks_of pages)
  pub space : HasSpaceFor bytes pages

-- The line of a fault, which is not that of memory, is short.
pub record IsShortRefusal (fault : DviFault) (line : List ℕ) : Type 0 where
  pub other : fault ≢ OutOfMemory
  pub line_is : line ≡ fault_line fault
  pub short : length line ≤ 64

-- The bytes are refused, and the line is short.
pub record IsRefusal (files : List NamedBytes) (bytes line : List ℕ) : Type 0 where
  pub refuses : RefusesFile files bytes line false
  pub short : length line ≤ 64

-- The outputs for a file of this length fit into the buffers that always suffice.
pub record FitsIn (size : ℕ) (outputs : MarkOutputs) : Type 0 where
  pub pages_fit : 46 * length outputs.pages ≤ size
  pub marks_fit : length outputs.marks ≤ size
  pub text_fits : length outputs.text ≤ 64

-- The outputs for a file are handed over, and they fit into these buffers.
abbrev pub HandsOverFully : List NamedBytes → (bytes : List ℕ) → (old new : MarkOutputs) → MarkSizes → (status : ℕ) → Type 0
HandsOverFully files bytes old new sizes status = (handed : HandsOverMarks files bytes old new sizes status) × FitsIn (length bytes) handed.outputs
