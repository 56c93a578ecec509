-- The rest of `Fonts`, which no public contract reaches (TeX: The Program, part 30).
use Rattle.std.specs.Prelude.{◌≡◌, ◌&&◌, ◌||◌, ◌<◌, Bool, true, not, IsSome, length, nat_lt}
use Rattle.std.specs.List.{list_all}
use Rattle.tfm_core.specs.declared.record.CharInfo.{CharInfo}
use Rattle.tfm_core.specs.declared.record.LigKernStep.{LigKernStep}
use Rattle.tfm_core.specs.Rules.{names_absent_kern_or_character}
use Rattle.tfm_core.specs.Fonts.{SizedFont, action_of}

-- A character's indices are within their tables (own).
unfoldable pub is_in_tables : SizedFont → CharInfo → Bool
is_in_tables font c = nat_lt c.width (length font.widths) && nat_lt c.height (length font.heights) && nat_lt c.depth (length font.depths)

-- A character's indices are within their tables: `is_in_tables` as facts (own).
pub record IsInTables (font : SizedFont) (c : CharInfo) : Type 0 where
  pub width : c.width < length font.widths
  pub height : c.height < length font.heights
  pub depth : c.depth < length font.depths

-- A step that can apply to a character names a kern or a character that is there (own).
unfoldable pub has_action : SizedFont → LigKernStep → Bool
has_action font s = nat_lt 128 s.skip || not (names_absent_kern_or_character font.first font.characters (length font.kerns) s)

-- A step gives a kern or a ligature (own).
pub record HasAction (font : SizedFont) (s : LigKernStep) : Type 0 where
  pub given : IsSome (action_of font s)

-- All characters have sizes, and all steps name what is there (own).
pub record IsWhole (font : SizedFont) : Type 0 where
  pub characters : list_all (is_in_tables font) font.characters ≡ true
  pub steps : list_all (has_action font) font.steps ≡ true
