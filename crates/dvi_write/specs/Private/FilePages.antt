-- The rest of `FilePages`, which no public contract reaches (own; DVItype, 15 and 18).
use Rattle.std.specs.Prelude.{◌&&◌, not, ℕ, pos, nat_lt, if◌then◌else◌, Bool, false, List, Option, Some, None, is_some, get_or}
use Rattle.dvi_ops.specs.Instruction.{FontNum, Instruction, Do}
use Rattle.tfm_core.specs.declared.slots.TheConstants.{FONT_SLOTS}
use Rattle.tfm_core.specs.Slots.{Slots, font_in}
use Rattle.dvi_write.specs.FilePages.{is_among}

-- The slot of the font that an instruction selects, if the font's number is that of a slot.
abbrev pub slot_of : Instruction → Option ℕ
slot_of (Do (FontNum (pos number))) = if nat_lt number FONT_SLOTS then Some number else None
slot_of i = None

-- The same with marks for the slots of the selected fonts.
unfoldable pub is_marked_fresh : Slots → (defined : List ℕ) → (marked : List Bool) → ℕ → Bool
is_marked_fresh fonts defined marked slot = get_or marked slot false && (is_some (font_in fonts slot) && not (is_among slot defined))
