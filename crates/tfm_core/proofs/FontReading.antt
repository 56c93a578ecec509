-- A metric file breaks no rule that needs no table, and why it gives no font at a size.
use Rattle.std.proofs.Common.{◌≡◌, List, ℕ, ℤ, Option, None, Some, Ok, Err, false, refl, sym, ◌∙◌}
use Rattle.scaled_core.specs.declared.fault.SizeFault.{SizeFault}
use Rattle.scaled_core.specs.declared.fault.SizeFault.TheVariants as sizes
use Rattle.tfm_core.specs.declared.fault.TfmCause.{TfmCause}
use Rattle.tfm_core.specs.FontReads.{IsReadRefusal, of_size}
use Rattle.tfm_core.specs.Fonts.{chosen_size, fits_at}
use Rattle.tfm_core.specs.MetricFile.{MetricFile}
use Rattle.tfm_core.specs.Rules.{broken_in_front, metric_file}
use Rattle.tfm_core.proofs.ReadingLemmas.{metric_file-front}

pub front_holds : (bytes : List ℕ) (file : MetricFile) → metric_file bytes ≡ Ok file → broken_in_front bytes ≡ None
front_holds bytes file is = by_front (broken_in_front bytes) refl
  where
    by_front : (found : Option TfmCause) → broken_in_front bytes ≡ found → broken_in_front bytes ≡ None
    by_front None e = e
    by_front (Some cause) e = let both : Err cause ≡ Ok file = sym (metric_file-front bytes cause e) ∙ is in absurd cc

-- A metric file that was read gives no font at a size.
pub size_refused : (bytes : List ℕ) (size : Option ℤ) (metrics : MetricFile) (fault : SizeFault) → metric_file bytes ≡ Ok metrics
    → (fault ≡ sizes.DimensionTooLarge → fits_at metrics (chosen_size metrics size) ≡ false) → IsReadRefusal bytes size (of_size fault)
size_refused bytes size metrics sizes.OutOfMemory is unfit = front_holds bytes metrics is
size_refused bytes size metrics sizes.DimensionTooLarge is unfit = (metrics, is, unfit refl)
