-- The rest of `FontSlots`, which no public contract reaches (own; after TeX: The Program, parts 30 and 46).
use Rattle.std.specs.Prelude.{ℕ, Option, Some, None}
use Rattle.scaled_core.specs.declared.sizes.Sizes.{Sizes}
use Rattle.tfm_core.specs.Fonts.{glyph_of}
use Rattle.tfm_core.specs.declared.slots.LoadedFont.{LoadedFont}

-- The sizes of a character in a font, if there is a font and it has the character.
abbrev pub glyph_by : Option LoadedFont → ℕ → Option Sizes
glyph_by None code = None
glyph_by (Some loaded) code = glyph_of loaded.font code
