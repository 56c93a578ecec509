-- The rest of `Drawing`, which no public contract reaches (DVItype, 15).
use Rattle.std.specs.Prelude.{◌≡◌, [], ◌∷◌, List, map, reverse, Some, None, Result, Ok, Err, IsSome}
use Rattle.dvi_ops.specs.Body.{Position, DviState, Meaning, kept_in}
use Rattle.scaled_core.specs.Mark.{Mark}
use Rattle.dvi_ops.specs.File.{MarkedPage}
use Rattle.dvi_scan.specs.declared.fault.DviCause.TheVariants.{Glyph, Range}
use Rattle.dvi_scan.specs.Pass.{with_marks}
use Rattle.dvi_scan.specs.Execution.{inside_of}
use Rattle.dvi_scan.specs.View.{mark_of, spot_position}
use Rattle.dvi_scan.specs.declared.executing.OpenPage.{OpenPage}
use Rattle.dvi_scan.specs.declared.executing.PassFault.{PassFault}
use Rattle.dvi_scan.specs.declared.executing.PassFault.TheVariants.{OutOfMemory, Broken}

-- The meaning of an instruction that makes these marks and moves from an open page to a place.
abbrev pub meaning_towards : List Mark → Position → OpenPage → Meaning
meaning_towards marks to page = Some (marks, record { place = to; font = page.state.font })

-- Why an instruction is refused: memory for its mark, a character that is missing, or h or v out of range.
abbrev pub IsUndrawn : Meaning → PassFault → Type 0
IsUndrawn m OutOfMemory = (mark : Mark) × (t : DviState) × (kept_in m ≡ Some (mark ∷ [], t))
IsUndrawn m (Broken Glyph) = m ≡ None
IsUndrawn m (Broken Range) = IsSome m × (kept_in m ≡ None)
IsUndrawn m fault = ⊥

-- The result for an instruction with this meaning in an open page. A refusal leaves the page as it was.
abbrev pub Draws : {A : Type 0} → Meaning → List MarkedPage → (old new : OpenPage) → Result A PassFault → Type 0
Draws m pages old new (Ok done) = with_marks pages old.counts (map mark_of old.marks.items) (reverse (map spot_position old.stack.items)) (kept_in m)
    ≡ Some (inside_of pages new)
Draws m pages old new (Err fault) = IsUndrawn m fault × (inside_of pages new ≡ inside_of pages old)
