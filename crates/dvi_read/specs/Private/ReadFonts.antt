-- The rest of `ReadFonts`, which no public contract reaches (own).
use Rattle.std.specs.Prelude.{◌≡◌, List, ℕ, ℤ, Some}
use Rattle.dvi_ops.specs.Fonts.{first_definition_of}
use Rattle.dvi_ops.specs.Instruction.{Definition, FontNum, Instruction, Do}
use Rattle.dvi_read.specs.declared.fonts.ReadFonts.{ReadFonts}
use Rattle.dvi_read.specs.ReadFonts.{HasCurrent, font_index}

-- A selection selects its font. Any other instruction leaves the fonts unchanged.
abbrev pub Chooses : Instruction → (old new : ReadFonts) → Type 0
Chooses (Do (FontNum f)) old new = HasCurrent f new
Chooses i old new = new ≡ old

-- At the index is the font of a number that is defined with the same name and size.
abbrev pub IsIndexOfSame : (known : List Definition) → Definition → ReadFonts → (index : ℕ) → Type 0
IsIndexOfSame known d fonts index =
    (g : ℤ) × (other : Definition) × (first_definition_of g known ≡ Some other) × (other.name ≡ d.name) × (other.size ≡ d.size)
    × (font_index g fonts ≡ Some index)
