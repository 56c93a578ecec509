-- The widths of characters that the font files of a job give for each font (TeX: The Program, part 30; DVItype, 18).
use Rattle.std.specs.Prelude.{ℕ, ℤ, pos, negsuc, List, Option, Some, None, Result, Ok, Err, if◌then◌else◌}
use Rattle.std.specs.Option.{option_map}
use Rattle.tfm_core.specs.declared.fault.TfmCause.{TfmCause}
use Rattle.tfm_core.specs.MetricFile.{MetricFile}
use Rattle.tfm_core.specs.Rules.{metric_file}
use Rattle.tfm_core.specs.Fonts.{SizedFont, fits_at, font_at, glyph_of}
use Rattle.tfm_core.specs.NamedBytes.{NamedBytes, file_named}

-- The width of a character of a font, if the font has it (TFtoPL, 11).
abbrev pub width_at : SizedFont → ℤ → Option ℤ
width_at font (pos code) = option_map (λ size. size.width) (glyph_of font code)
width_at font (negsuc n) = None

-- The widths at a size, for the result of reading a metric file: there are some if its dimensions fit at that size (own).
abbrev pub widths_by : Result MetricFile TfmCause → ℤ → Option (ℤ → Option ℤ)
widths_by (Err cause) size = None
widths_by (Ok file) size = if fits_at file size then Some (width_at (font_at file size)) else None

-- The widths at a size from a file, if there is a file (own).
abbrev pub widths_of_file : Option NamedBytes → ℤ → Option (ℤ → Option ℤ)
widths_of_file None size = None
widths_of_file (Some file) size = widths_by (metric_file file.bytes) size

-- The widths of a font's characters by its name and size: those of the first file with that name (own).
abbrev pub file_widths : List NamedBytes → List ℕ → ℤ → Option (ℤ → Option ℤ)
file_widths files name size = widths_of_file (file_named name files) size
