-- The fonts of a file: where they are defined and selected, and the widths of their metric files (DVItype, 18).
use Rattle.std.specs.Prelude.{◌≡◌, ◌^◌, ◌<ℤ◌, ◌++◌, if◌then◌else◌, [], ◌∷◌, List, ℕ, ℤ, pos, Option, Some, None, IsSome}
use Rattle.std.specs.Ordering.{int_eq}
use Rattle.std.specs.List.{flat_map, AllByRecursion}
use Rattle.dvi_ops.specs.Instruction.{Definition, FontNum, FontDef, Instruction, Do}
use Rattle.dvi_ops.specs.Body.{Widths}

-- The definition in an instruction, as a list of one or none.
abbrev pub definitions_in : Instruction → List Definition
definitions_in (Do (FontDef d)) = d ∷ []
definitions_in i = []

-- The font definitions among instructions, in order.
abbrev pub definitions : List Instruction → List Definition
definitions is = flat_map definitions_in is

-- The number of the font that an instruction selects, as a list of one or none.
abbrev pub selection_of : Instruction → List ℤ
selection_of (Do (FontNum f)) = f ∷ []
selection_of i = []

-- The numbers of the fonts that are selected, in order.
abbrev pub selections : List Instruction → List ℤ
selections is = flat_map selection_of is

-- The first definition of a number.
abbrev pub first_definition_of : ℤ → List Definition → Option Definition
first_definition_of f [] = None
first_definition_of f (d ∷ rest) = if int_eq f d.number then Some d else first_definition_of f rest

-- A font's size is positive and below 2^27 (DVItype, 18).
abbrev pub IsFontSize : ℤ → Type 0
IsFontSize z = (pos 0 <ℤ z) × (z <ℤ pos (2 ^ 27))

-- Two definitions of one number are the same in every field (DVItype, 18; there only the postamble may define a font again: that it may be anywhere
-- is own, and so is that both parts of the name count, where DVItype compares them as one).
abbrev pub AgreesWith : Definition → Definition → Type 0
AgreesWith d e = d.number ≡ e.number → d ≡ e

-- A definition has a size and agrees with the earlier ones. A selected font was defined before (DVItype, 18). `known` are the definitions before this
-- instruction.
abbrev pub IsRightAfter : List Definition → Instruction → Type 0
IsRightAfter known (Do (FontDef d)) = IsFontSize d.size × AllByRecursion (AgreesWith d) known
IsRightAfter known (Do (FontNum f)) = IsSome (first_definition_of f known)
IsRightAfter known i = Unit {0}

-- Each definition has a size and agrees with the earlier ones, and each selected font was defined before. `known` are the definitions before all
-- these instructions.
abbrev pub FontsAreRight : List Definition → List Instruction → Type 0
FontsAreRight known [] = Unit {0}
FontsAreRight known (i ∷ rest) = IsRightAfter known i × FontsAreRight (definitions_in i ++ known) rest

-- The definitions before and among these instructions, the last one first.
abbrev pub known_after : List Definition → List Instruction → List Definition
known_after known [] = known
known_after known (i ∷ rest) = known_after (definitions_in i ++ known) rest

-- The widths of a font's characters by its name and its size, where its metric file is given and is good (own).
abbrev pub WidthsByName : Type 0
WidthsByName = List ℕ → ℤ → Option (ℤ → Option ℤ)

-- The widths of a defined font, if there is one. The area is ignored (own).
abbrev pub widths_in : WidthsByName → Option Definition → Option (ℤ → Option ℤ)
widths_in metrics None = None
widths_in metrics (Some d) = metrics d.name d.size

-- The widths of the font with this number.
abbrev pub font : WidthsByName → List Definition → ℤ → Option (ℤ → Option ℤ)
font metrics table f = widths_in metrics (first_definition_of f table)

-- The width of a character, where the widths of its font are known.
abbrev pub width_in : Option (ℤ → Option ℤ) → ℤ → Option ℤ
width_in None c = None
width_in (Some widths) c = widths c

-- The width of each character of each font.
abbrev pub widths_of : WidthsByName → List Definition → Widths
widths_of metrics table f c = width_in (font metrics table f) c
