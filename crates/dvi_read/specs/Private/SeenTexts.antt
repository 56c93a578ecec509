-- The texts of specials that are seen (own).
use Rattle.std.specs.Prelude.{◌≡◌, Option, Some}
use Rattle.scaled_core.specs.Mark.{Mark, Special}
use Rattle.dvi_ops.specs.Instruction.{Instruction, Do, Xxx}
use Rattle.dvi_scan.specs.View.{mark_of}
use Rattle.dvi_read.specs.declared.seen_items.SeenItem.{SeenItem}
use Rattle.dvi_read.specs.declared.seen_items.SeenItem.TheVariants as seen_items

-- The text of a special is that of the instruction.
abbrev pub IsTextOf : Instruction → Mark → Type 0
IsTextOf i (Special h v text) = i ≡ Do (Xxx text)
IsTextOf i mark = Unit {0}

-- The same for what is seen, if it is a special.
abbrev pub ShowsTextOf : Instruction → Option SeenItem → Type 0
ShowsTextOf i (Some (seen_items.Mark mark)) = IsTextOf i (mark_of mark)
ShowsTextOf i item = Unit {0}
