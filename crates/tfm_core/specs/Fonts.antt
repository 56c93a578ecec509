-- A metric file at a size (TeX: The Program, part 30).
use Rattle.std.specs.Prelude.{◌&&◌, ◌+◌, ◌-◌, ◌*◌, ℕ, ℤ, pos, Bool, List, Option, Some, None, if◌then◌else◌, get_or, is_none, map, nat_le, slice_get}
use Rattle.std.specs.Prelude.{unwrap_or}
use Rattle.std.specs.Int.{w32}
use Rattle.std.specs.Int.RustNames.{FitsSigned}
use Rattle.std.specs.List.{list_all}
use Rattle.std.specs.Option.{option_and_then, option_map}
use Rattle.scaled_core.specs.Dimensions.{fits}
use Rattle.scaled_core.specs.declared.sizes.Sizes.{Sizes}
use Rattle.tfm_core.specs.declared.font.Space.{Space}
use Rattle.tfm_core.specs.declared.font.Step.{Step}
use Rattle.tfm_core.specs.declared.font.Step.TheVariants.{Kern, Ligature}
use Rattle.tfm_core.specs.declared.record.CharInfo.{CharInfo}
use Rattle.tfm_core.specs.declared.record.LigKernStep.{LigKernStep}
use Rattle.tfm_core.specs.MetricFile.{MetricFile}
use Rattle.tfm_core.specs.Program.{first_for, info_program}
use Rattle.tfm_core.specs.Rules.{character_at}
use Rattle.tfm_core.specs.Scaling.{IsFontSize, design_size_of, scaled}

-- The requested size, or the design size if none is requested (TeX: The Program, part 30, §568).
abbrev pub chosen_size : MetricFile → Option ℤ → ℤ
chosen_size file size = unwrap_or size (design_size_of file.design_word)

-- Parameter n, which counts from 1; one that the file does not have counts as 0 (TeX: The Program, part 30, §575).
abbrev pub parameter : ℕ → List ℤ → ℤ
parameter n parameters = get_or parameters (n - 1) (pos 0)

-- A font: the characters and steps of a metric file, with all sizes in scaled points (TeX: The Program, part 30).
pub record SizedFont : Type 0 where
  pub size : ℤ
  pub check_sum : ℤ
  pub design_size : ℤ
  pub first : ℕ
  pub characters : List CharInfo
  pub widths : List ℤ
  pub heights : List ℤ
  pub depths : List ℤ
  pub steps : List LigKernStep
  pub kerns : List ℤ
  pub space : Space

-- The space between words at a size: parameters 2, 3 and 4 (TFtoPL, 15).
unfoldable pub space_at : ℤ → List ℤ → Space
space_at size parameters = record {
  width = scaled size (parameter 2 parameters);
  stretch = scaled size (parameter 3 parameters);
  shrink = scaled size (parameter 4 parameters);
}

-- The metric file at this size (TeX: The Program, part 30).
unfoldable pub font_at : MetricFile → ℤ → SizedFont
font_at file size = record {
  size = size;
  check_sum = file.check_sum;
  design_size = design_size_of file.design_word;
  first = file.counts.first;
  characters = file.characters;
  widths = map (scaled size) file.widths;
  heights = map (scaled size) file.heights;
  depths = map (scaled size) file.depths;
  steps = file.steps;
  kerns = map (scaled size) file.kerns;
  space = space_at size file.parameters;
}

-- The size of a word fits as a dimension (own).
unfoldable pub is_dimen_at : ℤ → ℤ → Bool
is_dimen_at size word = fits (scaled size word)

-- The size of each of these words fits as a dimension (own).
unfoldable pub are_dimens_at : ℤ → List ℤ → Bool
are_dimens_at size words = list_all (is_dimen_at size) words

-- The sizes of the space at a size fit as dimensions (own).
unfoldable pub is_space_at : ℤ → List ℤ → Bool
is_space_at size parameters =
    is_dimen_at size (parameter 2 parameters) && is_dimen_at size (parameter 3 parameters) && is_dimen_at size (parameter 4 parameters)

-- Each width, height, depth and kern of the font fits as a dimension, and so does its space (own).
unfoldable pub fits_at : MetricFile → ℤ → Bool
fits_at file size =
    are_dimens_at size file.widths && are_dimens_at size file.heights && are_dimens_at size file.depths
    && are_dimens_at size file.kerns && is_space_at size file.parameters

-- The numbers of a font definition fit their fields in a DVI file (DVItype, 18).
pub record HasNumbers (font : SizedFont) : Type 0 where
  pub size : IsFontSize font.size
  pub design_size : IsFontSize font.design_size
  pub check_sum : FitsSigned w32 font.check_sum

-- The sizes that a character names (TFtoPL, 11).
abbrev pub sizes_of : SizedFont → CharInfo → Sizes
sizes_of font c = record {
  width = get_or font.widths c.width (pos 0);
  height = get_or font.heights c.height (pos 0);
  depth = get_or font.depths c.depth (pos 0);
}

-- The sizes of a character, if the font has it (TFtoPL, 11).
unfoldable pub glyph_of : SizedFont → ℕ → Option Sizes
glyph_of font code = option_map (sizes_of font) (character_at font.first font.characters code)

-- The sizes that a character of a metric file names, scaled by a size (TeX: The Program, part 30, §571).
abbrev pub sizes_in : MetricFile → ℤ → CharInfo → Sizes
sizes_in file size c = record {
  width = scaled size (get_or file.widths c.width (pos 0));
  height = scaled size (get_or file.heights c.height (pos 0));
  depth = scaled size (get_or file.depths c.depth (pos 0));
}

-- The first step of a character's program that applies to the following character (TFtoPL, 13).
unfoldable pub matching_step : SizedFont → ℕ → ℕ → Option LigKernStep
matching_step font code following =
    first_for font.steps following (info_program font.steps (character_at font.first font.characters code))

-- The kern or ligature of a step that applies to the following character: with an operation of 128 or more the kern with that index, and otherwise
-- the ligature, if its character is there (TFtoPL, 13).
unfoldable pub action_of : SizedFont → LigKernStep → Option Step
action_of font s =
    if nat_le 128 s.op then option_map Kern (slice_get font.kerns (256 * (s.op - 128) + s.remainder))
    else (if is_none (character_at font.first font.characters s.remainder) then None
    else Some (Ligature s.remainder))

-- What comes between two characters: a kern, or a ligature in their place (TFtoPL, 13).
unfoldable pub step_of : SizedFont → ℕ → ℕ → Option Step
step_of font code following = option_and_then (action_of font) (matching_step font code following)
