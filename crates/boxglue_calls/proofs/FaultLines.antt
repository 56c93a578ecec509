-- The line of a refusal is short.
use Rattle.std.proofs.Common.{◌≡◌, ◌≤◌, ◌<◌, ◌+◌, ◌^◌, ◌++◌, codes, decimal, length, length-append, arith, lit≤, refl}
use Rattle.std.proofs.lemmas.Fmt.{length-decimal-le}
use Rattle.std.specs.Fmt.{digits}
use Rattle.boxglue_program.specs.Texts.{refusal_line, refusal_text}
use Rattle.boxglue_print.specs.Faults.{bad_line, dvi_cause_name, fault_line}
use Rattle.dvi_read.specs.declared.fault.DviFault.{DviFault}
use Rattle.dvi_read.specs.declared.fault.DviFault.TheVariants as faults
use Rattle.dvi_scan.specs.declared.widths.FontRefusal.TheVariants.{NoFont, BadTfm, DimensionTooLarge}
use Rattle.dvi_scan.specs.declared.fault.BadDvi.{BadDvi}
use Rattle.dvi_scan.specs.declared.fault.DviCause.{DviCause}
use Rattle.dvi_scan.specs.declared.fault.DviCause.TheVariants.{Trailer, Version, Opcode, Pointer, Count, Preamble, Truncated, Stack, Font, Glyph, Range}
use Rattle.tfm_core.specs.declared.fault.TfmCause.TheVariants as causes

cause_short : (cause : DviCause) → length (dvi_cause_name cause) ≤ 9
cause_short Trailer = lit≤ tt
cause_short Version = lit≤ tt
cause_short Opcode = lit≤ tt
cause_short Pointer = lit≤ tt
cause_short Count = lit≤ tt
cause_short Preamble = lit≤ tt
cause_short Truncated = lit≤ tt
cause_short Stack = lit≤ tt
cause_short Font = lit≤ tt
cause_short Glyph = lit≤ tt
cause_short Range = lit≤ tt

bad_short : (bad : BadDvi) → bad.place < 2 ^ 64 → length (bad_line bad) ≤ 64
unfolding bad_line
bad_short bad below =
    let name = dvi_cause_name bad.cause in
    let number = decimal bad.place in
    let first : length (codes "refused 20 BadDvi ") ≡ 18 = refl in
    let space : length (codes " ") ≡ 1 = refl in
    let feed : length (codes "\n") ≡ 1 = refl in
    let short = cause_short bad.cause in
    let digits_are = length-decimal-le 20 bad.place (omega arith) (omega arith) below in
    omega (
      arith,
      length-append (codes "refused 20 BadDvi ") (number ++ (codes " " ++ (name ++ codes "\n"))),
      length-append number (codes " " ++ (name ++ codes "\n")),
      length-append (codes " ") (name ++ codes "\n"),
      length-append name (codes "\n"),
    )

pub line_short : (fault : DviFault) → ((bad : BadDvi) → fault ≡ faults.Bad bad → bad.place < 2 ^ 64) → length (fault_line fault) ≤ 64
unfolding fault_line refusal_line refusal_text digits
line_short faults.OutOfMemory below = lit≤ tt
line_short (faults.Font (DimensionTooLarge number)) below = lit≤ tt
line_short (faults.Font (NoFont name)) below = lit≤ tt
line_short (faults.Font (BadTfm number causes.TooShort)) below = lit≤ tt
line_short (faults.Font (BadTfm number causes.Counts)) below = lit≤ tt
line_short (faults.Font (BadTfm number causes.DesignSize)) below = lit≤ tt
line_short (faults.Font (BadTfm number causes.CharInfo)) below = lit≤ tt
line_short (faults.Font (BadTfm number causes.FixWord)) below = lit≤ tt
line_short (faults.Font (BadTfm number causes.LigKern)) below = lit≤ tt
line_short (faults.Bad bad) below = bad_short bad (below bad refl)
