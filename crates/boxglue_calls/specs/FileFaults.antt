-- Why a DVI file is refused, in numbers (own).
use Rattle.std.specs.Prelude.{◌≡◌, ◌≢◌, ◌⊎◌, ℕ, pos, List, [], length}
use Rattle.dvi_ops.specs.File.{IsFile, MarkedPage}
use Rattle.dvi_read.specs.Opened.{IsNoFile}
use Rattle.dvi_read.specs.Opening.{IsDviFault}
use Rattle.dvi_read.specs.declared.fault.DviFault.{DviFault}
use Rattle.dvi_read.specs.declared.fault.DviFault.TheVariants as faults
use Rattle.dvi_scan.specs.declared.fault.DviCause.{DviCause}
use Rattle.dvi_scan.specs.declared.fault.DviCause.TheVariants.{Trailer, Version, Opcode, Pointer, Count, Preamble, Truncated, Stack, Font, Glyph}
use Rattle.dvi_scan.specs.declared.fault.DviCause.TheVariants.{Range}
use Rattle.dvi_scan.specs.declared.widths.FontRefusal.TheVariants.{NoFont, BadTfm, DimensionTooLarge}
use Rattle.job_machine.specs.declared.replies.Refusal.{Refusal}
use Rattle.job_machine.specs.declared.replies.Refusal.TheVariants as refusals
use Rattle.tfm_core.specs.FileWidths.{file_widths}
use Rattle.tfm_core.specs.NamedBytes.{NamedBytes}
use Rattle.boxglue_program.specs.Texts.{refusal_row}
use Rattle.boxglue_calls.specs.Buffers.{HandsOver}
use Rattle.boxglue_calls.specs.Rows.{refusal_cause}
use Rattle.boxglue_calls.specs.declared.faults.Fault.{Fault}

-- The number of a rule of a DVI file.
abbrev pub dvi_cause : DviCause → ℕ
dvi_cause Trailer = 1
dvi_cause Version = 2
dvi_cause Opcode = 3
dvi_cause Pointer = 4
dvi_cause Count = 5
dvi_cause Preamble = 6
dvi_cause Truncated = 7
dvi_cause Stack = 8
dvi_cause Font = 9
dvi_cause Glyph = 10
dvi_cause Range = 11

-- No refusal.
abbrev pub no_fault : Fault
no_fault = record { number = 0; cause = 0; font = pos 0; place = 0; name_size = 0 }

-- A refusal that a job has too: its number, and the number of its cause.
abbrev pub refusal_fault : Refusal → Fault
refusal_fault refusal = record no_fault { number = (refusal_row refusal).0; cause = refusal_cause refusal }

-- The numbers of a DVI file's fault: a broken rule with its place; a missing font with the length of its name; a refused metric file with the number
-- of the font in the DVI file.
abbrev pub fault_numbers : DviFault → Fault
fault_numbers faults.OutOfMemory = refusal_fault refusals.OutOfMemory
fault_numbers (faults.Bad bad) = record no_fault { number = 20; cause = dvi_cause bad.cause; place = bad.place }
fault_numbers (faults.Font (NoFont name)) = record (refusal_fault refusals.NoFont) { name_size = length name.now }
fault_numbers (faults.Font (BadTfm number cause)) = record (refusal_fault (refusals.BadTfm cause)) { font = number }
fault_numbers (faults.Font (DimensionTooLarge number)) = record (refusal_fault refusals.DimensionTooLarge) { font = number }

-- The name of the font that is missing; empty for another fault.
abbrev pub missing_name : DviFault → List ℕ
missing_name (faults.Font (NoFont name)) = name.now
missing_name fault = []

-- The bytes are a file, and there is no fault.
pub record AcceptsFile (files : List NamedBytes) (bytes : List ℕ) (name : List ℕ × List ℕ) (numbers : Fault) (status : ℕ) : Type 0 where
  pub pages : List MarkedPage
  pub file : IsFile (file_widths files) bytes pages
  pub numbers_are : numbers ≡ no_fault
  pub same : name.1 ≡ name.0
  pub status_is : status ≡ 0

-- The bytes are no file. They break the rule of a fault, whose numbers are these; and the name of the font that is missing, which only NoFont has, is
-- handed over.
pub record RefusesInNumbers (files : List NamedBytes) (bytes : List ℕ) (name : List ℕ × List ℕ) (numbers : Fault) (status : ℕ) : Type 0 where
  pub fault : DviFault
  pub other : fault ≢ faults.OutOfMemory
  pub broken : IsDviFault files bytes fault
  pub none : IsNoFile files bytes
  pub numbers_are : numbers ≡ fault_numbers fault
  pub handed : HandsOver name.0 name.1 (missing_name fault) 1 status

-- A file is accepted, or refused in numbers.
abbrev pub ChecksFile : List NamedBytes → (bytes : List ℕ) → (name : List ℕ × List ℕ) → Fault → (status : ℕ) → Type 0
ChecksFile files bytes name numbers status = AcceptsFile files bytes name numbers status ⊎ RefusesInNumbers files bytes name numbers status
