-- The fonts of a job, by slot (own; after TeX: The Program, part 30).
use Rattle.std.specs.Prelude.{◌≡◌, ℕ, List, length, Option, None, slice_get, unwrap_or, IfSome}
use Rattle.std.specs.List.{AllByRecursion}
use Rattle.tfm_core.specs.NamedBytes.{IsFontName}
use Rattle.tfm_core.specs.Fonts.{HasNumbers}
use Rattle.tfm_core.specs.declared.slots.LoadedFont.{LoadedFont}
use Rattle.tfm_core.specs.declared.slots.TheConstants.{FONT_SLOTS}

-- The fonts of the slots, from slot 0 on.
abbrev pub Slots : Type 0
Slots = List (Option LoadedFont)

-- The font of a slot, if it has one.
abbrev pub font_in : Slots → ℕ → Option LoadedFont
font_in fonts slot = unwrap_or (slice_get fonts slot) None

-- A font can be defined in a file: its name has 1 to 255 bytes, and its numbers fit their fields (DVItype, 18).
pub record IsDefinable (loaded : LoadedFont) : Type 0 where
  pub name : IsFontName loaded.name
  pub numbers : HasNumbers loaded.font

-- There are `FONT_SLOTS` slots, and the font of each can be defined.
pub record AreDefinable (fonts : Slots) : Type 0 where
  pub slots : length fonts ≡ FONT_SLOTS
  pub each : AllByRecursion (λ slot. IfSome slot IsDefinable) fonts
