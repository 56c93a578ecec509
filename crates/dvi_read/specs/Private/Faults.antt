-- The rest of `Faults`, which no public contract reaches (own).
use Rattle.std.specs.Prelude.{ℤ}
use Rattle.tfm_core.specs.declared.reading.FontReadFault.{FontReadFault}
use Rattle.tfm_core.specs.declared.reading.FontReadFault.TheVariants as reads
use Rattle.dvi_scan.specs.declared.widths.FontRefusal.TheVariants as refusals
use Rattle.dvi_scan.specs.declared.executing.PassFault.TheVariants as passes
use Rattle.dvi_read.specs.declared.fault.StepFault.{StepFault}
use Rattle.dvi_read.specs.declared.fault.StepFault.TheVariants.{Pass, Font}

-- The fault of the font with this number, which was not read, as a fault of the instruction that selects it.
abbrev pub of_read : (number : ℤ) → FontReadFault → StepFault
of_read number reads.OutOfMemory = Pass passes.OutOfMemory
of_read number (reads.BadTfm cause) = Font (refusals.BadTfm number cause)
of_read number reads.DimensionTooLarge = Font (refusals.DimensionTooLarge number)
