-- More fonts in the slots (own).
use Rattle.std.specs.Prelude.{◌≡◌, ℕ, Some}
use Rattle.tfm_core.specs.declared.slots.LoadedFont.{LoadedFont}
use Rattle.tfm_core.specs.Slots.{Slots, font_in}

-- All fonts of some slots, and perhaps more.
abbrev pub Extends : Slots → Slots → Type 0
Extends fonts more = (slot : ℕ) (loaded : LoadedFont) → font_in fonts slot ≡ Some loaded → font_in more slot ≡ Some loaded
