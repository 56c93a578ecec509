-- The widths that a file gives.
use Rattle.std.proofs.Common.{◌≡◌, List, ℕ, ℤ, true, Some, Ok, sym, ap}
use Rattle.tfm_core.specs.FileWidths.{width_at, widths_by}
use Rattle.tfm_core.specs.Fonts.{SizedFont, fits_at, font_at}
use Rattle.tfm_core.specs.MetricFile.{MetricFile}
use Rattle.tfm_core.specs.Rules.{metric_file}

-- The widths that the bytes of a metric file give.
pub widths_found : (bytes : List ℕ) (size : ℤ) (metrics : MetricFile) (font : SizedFont) → metric_file bytes ≡ Ok metrics → fits_at metrics size ≡ true → font ≡ font_at metrics size
    → widths_by (metric_file bytes) size ≡ Some (width_at font)
widths_found bytes size metrics font is fit same = rw is (rw fit (ap (λ (font : SizedFont). Some (width_at font)) (sym same)))
