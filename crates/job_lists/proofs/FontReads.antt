-- The font of a slot, from what was read of its file.
use Rattle.std.proofs.Common.{◌≡◌, List, ℕ, ℤ, Option, Some, Ok, Err, refl, sym, ◌∙◌, ap}
use Rattle.job_machine.specs.declared.replies.Refusal.TheVariants as refusals
use Rattle.job_machine.specs.FontSlots.{font_of_slot}
use Rattle.tfm_core.specs.declared.fault.TfmCause.{TfmCause}
use Rattle.tfm_core.specs.declared.reading.FontReadFault.TheVariants.{BadTfm, DimensionTooLarge}
use Rattle.tfm_core.specs.FontReads.{IsFontIn, IsReadRefusal}
use Rattle.tfm_core.specs.Fonts.{SizedFont}
use Rattle.tfm_core.specs.NamedBytes.{NamedBytes}
use Rattle.tfm_core.specs.Rules.{metric_file}

pub font_read : (bytes : List ℕ) (file : NamedBytes) (size : Option ℤ) (font : SizedFont) → bytes ≡ file.bytes → IsFontIn bytes size font
    → Ok font ≡ font_of_slot (Some file) size
font_read bytes file size font same found = rw (ap metric_file (sym same) ∙ found.read) (rw found.fits (ap Ok found.same))

pub file_refused : (bytes : List ℕ) (file : NamedBytes) (size : Option ℤ) (cause : TfmCause) → bytes ≡ file.bytes → IsReadRefusal bytes size (BadTfm cause)
    → Err (refusals.BadTfm cause) ≡ font_of_slot (Some file) size
file_refused bytes file size cause same refused = rw (ap metric_file (sym same) ∙ refused) refl

pub size_refused : (bytes : List ℕ) (file : NamedBytes) (size : Option ℤ) → bytes ≡ file.bytes → IsReadRefusal bytes size DimensionTooLarge
    → Err refusals.DimensionTooLarge ≡ font_of_slot (Some file) size
size_refused bytes file size same (metrics, read, unfit) = rw (ap metric_file (sym same) ∙ read) (rw unfit refl)
