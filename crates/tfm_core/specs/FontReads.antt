-- The font in the bytes of a metric file at a size, and why there is none (own; TeX: The Program, part 30).
use Rattle.std.specs.Prelude.{◌≡◌, ℕ, ℤ, List, Option, None, Ok, Err, true, false}
use Rattle.scaled_core.specs.declared.fault.SizeFault.{SizeFault}
use Rattle.scaled_core.specs.declared.fault.SizeFault.TheVariants as sizes
use Rattle.tfm_core.specs.declared.fault.TfmFault.{TfmFault}
use Rattle.tfm_core.specs.declared.fault.TfmFault.TheVariants as files
use Rattle.tfm_core.specs.declared.reading.FontReadFault.{FontReadFault}
use Rattle.tfm_core.specs.declared.reading.FontReadFault.TheVariants.{OutOfMemory, BadTfm, DimensionTooLarge}
use Rattle.tfm_core.specs.Fonts.{SizedFont, chosen_size, fits_at, font_at}
use Rattle.tfm_core.specs.MetricFile.{MetricFile}
use Rattle.tfm_core.specs.Rules.{broken_in_front, metric_file}

-- The fault where the bytes are no metric file (own).
abbrev pub of_tfm : TfmFault → FontReadFault
of_tfm files.OutOfMemory = OutOfMemory
of_tfm (files.Bad cause) = BadTfm cause

-- The fault where a metric file gives no font at a size (own).
abbrev pub of_size : SizeFault → FontReadFault
of_size sizes.OutOfMemory = OutOfMemory
of_size sizes.DimensionTooLarge = DimensionTooLarge

-- The bytes are a metric file, its dimensions fit at the size, and this is the font (own; TeX: The Program, part 30).
pub record IsFontIn (bytes : List ℕ) (size : Option ℤ) (font : SizedFont) : Type 0 where
  pub metrics : MetricFile
  pub read : metric_file bytes ≡ Ok metrics
  pub fits : fits_at metrics (chosen_size metrics size) ≡ true
  pub same : font ≡ font_at metrics (chosen_size metrics size)

-- Why the bytes give no font at a size: they are no metric file; or one of its dimensions at the size does not fit; or memory was refused for its
-- tables. The rules that need no table are tested before any growth (own).
abbrev pub IsReadRefusal : List ℕ → (size : Option ℤ) → FontReadFault → Type 0
IsReadRefusal bytes size OutOfMemory = broken_in_front bytes ≡ None
IsReadRefusal bytes size (BadTfm cause) = metric_file bytes ≡ Err cause
IsReadRefusal bytes size DimensionTooLarge =
    (metrics : MetricFile) × (metric_file bytes ≡ Ok metrics) × (fits_at metrics (chosen_size metrics size) ≡ false)
