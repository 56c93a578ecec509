-- The lines of refusals (own).
use Rattle.std.specs.Prelude.{◌≡◌, ℕ, ℤ, List, ◌++◌, codes, decimal}
use Rattle.std.specs.Borrow.{Bor}
use Rattle.dvi_scan.specs.declared.fault.BadDvi.{BadDvi}
use Rattle.dvi_scan.specs.declared.fault.DviCause.{DviCause}
use Rattle.dvi_scan.specs.declared.fault.DviCause.TheVariants.{Trailer, Version, Opcode, Pointer, Count, Preamble, Truncated, Stack, Font, Glyph}
use Rattle.dvi_scan.specs.declared.fault.DviCause.TheVariants.{Range}
use Rattle.dvi_read.specs.declared.fault.DviFault.{DviFault}
use Rattle.dvi_read.specs.declared.fault.DviFault.TheVariants as faults
use Rattle.dvi_scan.specs.declared.widths.FontRefusal.TheVariants.{NoFont, BadTfm, DimensionTooLarge}
use Rattle.tfm_core.specs.declared.fault.TfmCause.TheVariants.{TooShort, LigKern}
use Rattle.job_machine.specs.declared.replies.Refusal.TheVariants as refusals
use Rattle.boxglue_program.specs.Texts.{refusal_line}

-- The name of a rule of a DVI file.
abbrev pub dvi_cause_name : DviCause → List ℕ
dvi_cause_name Trailer = codes "Trailer"
dvi_cause_name Version = codes "Version"
dvi_cause_name Opcode = codes "Opcode"
dvi_cause_name Pointer = codes "Pointer"
dvi_cause_name Count = codes "Count"
dvi_cause_name Preamble = codes "Preamble"
dvi_cause_name Truncated = codes "Truncated"
dvi_cause_name Stack = codes "Stack"
dvi_cause_name Font = codes "Font"
dvi_cause_name Glyph = codes "Glyph"
dvi_cause_name Range = codes "Range"

-- The line of a broken rule: its place and its name.
unfoldable pub bad_line : BadDvi → List ℕ
bad_line bad = codes "refused 20 BadDvi " ++ (decimal bad.place ++ (codes " " ++ (dvi_cause_name bad.cause ++ codes "\n")))

-- The line of a refusal. Those that a job has too have its numbers and names.
unfoldable pub fault_line : DviFault → List ℕ
fault_line faults.OutOfMemory = refusal_line refusals.OutOfMemory
fault_line (faults.Font (DimensionTooLarge number)) = refusal_line refusals.DimensionTooLarge
fault_line (faults.Font (NoFont name)) = refusal_line refusals.NoFont
fault_line (faults.Font (BadTfm number cause)) = refusal_line (refusals.BadTfm cause)
fault_line (faults.Bad bad) = bad_line bad

-- Known lines of refusals.
abbrev pub KnownLines : Type 0
KnownLines =
    (fault_line faults.OutOfMemory ≡ codes "refused 1 OutOfMemory\n")
    × ((number : ℤ) → fault_line (faults.Font (DimensionTooLarge number)) ≡ codes "refused 3 DimensionTooLarge\n")
    × ((name : Bor (List ℕ)) → fault_line (faults.Font (NoFont name)) ≡ codes "refused 4 NoFont\n")
    × ((number : ℤ) → fault_line (faults.Font (BadTfm number TooShort)) ≡ codes "refused 5 BadTfm TooShort\n")
    × ((number : ℤ) → fault_line (faults.Font (BadTfm number LigKern)) ≡ codes "refused 5 BadTfm LigKern\n")
