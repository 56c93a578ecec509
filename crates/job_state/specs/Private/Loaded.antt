-- The rest of `Loaded`, which no public contract reaches (own).
use Rattle.std.specs.Prelude.{◌≡◌, List, length, Some, Ok, IfSome}
use Rattle.std.specs.List.{AllByRecursion}
use Rattle.tfm_core.specs.NamedBytes.{NamedBytes, IsFontName, file_named}
use Rattle.tfm_core.specs.Fonts.{HasNumbers}
use Rattle.tfm_core.specs.declared.slots.LoadedFont.{LoadedFont}
use Rattle.tfm_core.specs.Slots.{Slots}
use Rattle.tfm_core.specs.declared.slots.TheConstants.{FONT_SLOTS}
use Rattle.job_machine.specs.FontSlots.{font_of_slot}

-- A font is what the first file of its name gives at its size.
pub record IsLoaded (files : List NamedBytes) (loaded : LoadedFont) : Type 0 where
  pub read : font_of_slot (file_named loaded.name files) (Some loaded.font.size) ≡ Ok loaded.font
  pub name : IsFontName loaded.name
  pub numbers : HasNumbers loaded.font

-- There are `FONT_SLOTS` slots, and each font in them is what the first file of its name gives at its size.
pub record AreLoaded (files : List NamedBytes) (fonts : Slots) : Type 0 where
  pub slots : length fonts ≡ FONT_SLOTS
  pub each : AllByRecursion (λ slot. IfSome slot (IsLoaded files)) fonts
