-- The result of opening a file, in relation to the file (own).
use Rattle.std.specs.Prelude.{◌≡◌, List, ℕ, Result, Ok, Err}
use Rattle.dvi_ops.specs.File.{Frame, IsFile, MarkedPage}
use Rattle.dvi_ops.specs.Instruction.{Units}
use Rattle.dvi_read.specs.declared.check.checked_file.CheckedFile.{CheckedFile}
use Rattle.dvi_read.specs.declared.fault.DviFault.{DviFault}
use Rattle.dvi_read.specs.declared.fault.DviFault.TheVariants.{OutOfMemory}
use Rattle.tfm_core.specs.FileWidths.{file_widths}
use Rattle.tfm_core.specs.NamedBytes.{NamedBytes}

-- The units of a file, its pages in order, and what is kept of it to read these again.
pub record OpenedFile : Type 0 where
  pub units : Units
  pub pages : List MarkedPage
  pub file : CheckedFile

-- The units are those of the postamble, and so those of the preamble.
abbrev pub HasUnitsOf : List ℕ → OpenedFile → Type 0
HasUnitsOf bytes dvi = (f : Frame bytes) → dvi.units ≡ f.postamble.units

-- A call gives exactly these pages, or memory was refused.
abbrev pub GivesPages : List MarkedPage → Result OpenedFile DviFault → Type 0
GivesPages pages (Ok dvi) = dvi.pages ≡ pages
GivesPages pages (Err fault) = fault ≡ OutOfMemory

-- Whatever the pages of these bytes with these font files are, a call gives exactly them, or memory was refused.
abbrev pub IsExact : List NamedBytes → List ℕ → Result OpenedFile DviFault → Type 0
IsExact files bytes result = (pages : List MarkedPage) → IsFile (file_widths files) bytes pages → GivesPages pages result

-- With these font files the bytes are no file, whatever the pages.
abbrev pub IsNoFile : List NamedBytes → List ℕ → Type 0
IsNoFile files bytes = (pages : List MarkedPage) → IsFile (file_widths files) bytes pages → ⊥
