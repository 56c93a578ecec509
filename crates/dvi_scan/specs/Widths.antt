-- Why a font has no widths, by the font files (own).
use Rattle.std.specs.Prelude.{◌≡◌, ◌<◌, List, ℕ, false, Some, None, Ok, Err}
use Rattle.dvi_ops.specs.Instruction.{Definition}
use Rattle.scaled_core.specs.declared.sizes.Sizes.{Sizes}
use Rattle.tfm_core.specs.Fonts.{SizedFont, fits_at, glyph_of}
use Rattle.tfm_core.specs.MetricFile.{MetricFile}
use Rattle.tfm_core.specs.NamedBytes.{NamedBytes, file_named}
use Rattle.tfm_core.specs.Rules.{broken_in_front, metric_file}
use Rattle.dvi_scan.specs.declared.widths.FontRefusal.{FontRefusal}
use Rattle.dvi_scan.specs.declared.widths.FontRefusal.TheVariants.{NoFont, BadTfm, DimensionTooLarge}

-- The codes of a font's characters are bytes.
abbrev pub HasBytes : SizedFont → Type 0
HasBytes font = (code : ℕ) (size : Sizes) → glyph_of font code ≡ Some size → code < 256

-- The font files have one with the font's name, and the first such file breaks no rule that needs no table: only then memory may be refused for the
-- font.
abbrev pub MayAllocate : List NamedBytes → Definition → Type 0
MayAllocate files d = (file : NamedBytes) × (file_named d.name files ≡ Some file) × (broken_in_front file.bytes ≡ None)

-- The reason of a refusal: no file with the font's name was given, and the refusal has the name; or the first one is no metric file, or one of its
-- dimensions at the font's size does not fit, and the refusal has the font's number.
abbrev pub IsFontRefusal : List NamedBytes → Definition → FontRefusal → Type 0
IsFontRefusal files d (NoFont name) = (name.now ≡ d.name) × (file_named d.name files ≡ None)
IsFontRefusal files d (BadTfm number cause) =
    (number ≡ d.number) × (file : NamedBytes) × (file_named d.name files ≡ Some file) × (metric_file file.bytes ≡ Err cause)
IsFontRefusal files d (DimensionTooLarge number) =
    (number ≡ d.number) × (file : NamedBytes) × (file_named d.name files ≡ Some file) × (metrics : MetricFile)
    × (metric_file file.bytes ≡ Ok metrics) × (fits_at metrics d.size ≡ false)
