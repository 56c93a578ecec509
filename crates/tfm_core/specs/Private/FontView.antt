-- A font as its fields hold it (own; only the models of `SizedFile` and `Font` use it).
use Rattle.std.specs.Prelude.{◌≡◌, ◌==◌, ◌<◌, ◌/◌, ◌%◌, ℕ, Bool, List, [], Option, Some, None, is_some, length, get_or}
use Rattle.std.specs.Int.{bit_at}
use Rattle.std.specs.Option.{option_and_then}
use Rattle.tfm_core.specs.declared.character_set.CharacterSet.{CharacterSet}
use Rattle.tfm_core.specs.declared.font.FontRow.{FontRow}
use Rattle.tfm_core.specs.declared.font.Font.TheInside.{Inside as FontInside}
use Rattle.tfm_core.specs.declared.record.CharInfo.{CharInfo}
use Rattle.tfm_core.specs.declared.record.LigKernStep.{LigKernStep}
use Rattle.tfm_core.specs.declared.record.Tag.{Tag}
use Rattle.tfm_core.specs.declared.record.Tag.TheVariants.{Plain, Program, Larger, Recipe}
use Rattle.tfm_core.specs.declared.sized_file.SizedFile.TheInside.{Inside}
use Rattle.tfm_core.specs.Fonts.{SizedFont, glyph_of, matching_step}
use Rattle.tfm_core.specs.Private.Fonts.{IsWhole}
use Rattle.tfm_core.specs.Program.{first_step}
use Rattle.tfm_core.specs.Rules.{character_at}

-- The font in the fields of a file (own).
abbrev pub file_view : Inside → SizedFont
file_view f = record {
  size = f.size;
  check_sum = f.check_sum;
  design_size = f.design_size;
  first = f.first;
  characters = f.characters.items;
  widths = f.widths.items;
  heights = f.heights.items;
  depths = f.depths.items;
  steps = f.steps.items;
  kerns = f.kerns.items;
  space = f.space;
}

-- The font in the fields is whole (own).
abbrev pub file_is_whole : Inside → Type 0
file_is_whole f = IsWhole (file_view f)

-- A character below 256 is in a set: bit c % 64 of word c / 64 is 1 (own).
abbrev pub is_in : CharacterSet → ℕ → Bool
is_in set c = bit_at (get_or set.words (c / 64) 0) (c % 64) == 1

-- The step at which a tag's program begins, if the tag has a program (TFtoPL, 12 and 13).
abbrev pub tag_start : List LigKernStep → Tag → Option ℕ
tag_start steps (Program k) = Some (first_step steps k)
tag_start steps Plain = None
tag_start steps (Larger c) = None
tag_start steps (Recipe r) = None

-- The step at which a character's program begins, if it has a program (TFtoPL, 11 to 13).
unfoldable pub start_of : SizedFont → ℕ → Option ℕ
start_of font code = option_and_then (λ (c : CharInfo). tag_start font.steps c.tag) (character_at font.first font.characters code)

-- A row agrees with the font about a character (own).
pub record IsFontRow (font : SizedFont) (code : ℕ) (row : FontRow) : Type 0 where
  pub glyph : row.glyph ≡ glyph_of font code
  pub start : row.start ≡ start_of font code
  pub followers : (f : ℕ) → f < 256 → is_in row.followers f ≡ is_some (matching_step font code f)

-- The row that stands for a missing one (own).
abbrev pub no_row : FontRow
no_row = record { glyph = None; start = None; followers = record { words = [] } }

-- There is a row for each character (own).
pub record AreRows (font : SizedFont) (rows : List FontRow) : Type 0 where
  pub count : length rows ≡ 256
  pub each : (code : ℕ) → code < 256 → IsFontRow font code (get_or rows code no_row)

-- The font in the fields (own).
abbrev pub font_view : FontInside → SizedFont
font_view f = f.file

-- The rows of a font agree with its file (own).
abbrev pub font_is_whole : FontInside → Type 0
font_is_whole f = AreRows f.file f.rows.items
