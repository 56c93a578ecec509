-- A refused font has no widths; a good metric file breaks no rule; an error that `?` passes on.
use Rattle.std.proofs.Common.{◌≡◌, List, ℤ, Option, None, Some, Result, Ok, Err, false, refl, sym, ◌∙◌, subst}
use Rattle.std.specs.Result.{IfErr, IsErrAnd}
use Rattle.dvi_ops.specs.Instruction.{Definition}
use Rattle.dvi_scan.specs.Widths.{IsFontRefusal, MayAllocate}
use Rattle.dvi_scan.specs.declared.widths.FontRefusal.{FontRefusal}
use Rattle.dvi_scan.specs.declared.widths.FontRefusal.TheVariants.{NoFont, BadTfm, DimensionTooLarge}
use Rattle.tfm_core.specs.FileWidths.{file_widths, widths_by, widths_of_file}
use Rattle.tfm_core.specs.MetricFile.{MetricFile}
use Rattle.tfm_core.specs.NamedBytes.{NamedBytes, file_named}
use Rattle.tfm_core.specs.Rules.{broken_in_front, metric_file}
use Rattle.tfm_core.specs.declared.fault.TfmCause.{TfmCause}
use Rattle.tfm_core.proofs.FontReading.{front_holds}

pub no_widths : (files : List NamedBytes) (d : Definition) (refusal : FontRefusal) → IsFontRefusal files d refusal
    → file_widths files d.name d.size ≡ None
no_widths files d (NoFont name) (named, none) = rw none refl
no_widths files d (BadTfm number cause) (same, file, named, bad) = rw named (rw bad refl)
no_widths files d (DimensionTooLarge number) (same, file, named, metrics, is, unfit) = rw named (rw is (rw unfit refl))

-- Where a font has widths, the first file with its name breaks no rule that needs no table.
pub widths_space : (files : List NamedBytes) (d : Definition) (w : ℤ → Option ℤ) → file_widths files d.name d.size ≡ Some w → MayAllocate files d
widths_space files d w e = by_file (file_named d.name files) refl e
  where
    by_read : (file : NamedBytes) (read : Result MetricFile TfmCause) → metric_file file.bytes ≡ read → widths_by read d.size ≡ Some w → broken_in_front file.bytes ≡ None
    by_read file (Err cause) is e = absurd cc
    by_read file (Ok metrics) is e = front_holds file.bytes metrics is

    by_file : (found : Option NamedBytes) → file_named d.name files ≡ found → widths_of_file found d.size ≡ Some w → MayAllocate files d
    by_file None is e = absurd cc
    by_file (Some file) is e = (file, is, by_read file (metric_file file.bytes) refl e)

-- A property of an error holds of what is returned for it.
pub handed_on : {A E : Type 0} (P : E → Type 0) (r : Result A E) (e : E) → IsErrAnd r (λ y. y ≡ e) → P e → IfErr r P
handed_on P (Ok x) e given p = tt
handed_on P (Err y) e given p = subst P (sym given) p
