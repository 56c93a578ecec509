-- The pass over the instructions between preamble and postamble, as DVItype does it: pages, and a stack of places inside a page (DVItype, 15).
use Rattle.std.specs.Prelude.{◌++◌, [], ◌∷◌, List, length, ℕ, ℤ, nat_lt, if◌then◌else◌, Option, Some, None}
use Rattle.dvi_ops.specs.Instruction.{Nop, FontDef, Instruction, Do, Push, Pop, Bop, Eop}
use Rattle.dvi_ops.specs.Body.{Position, DviState, Meaning, Acts, start}
use Rattle.scaled_core.specs.Mark.{Mark}
use Rattle.dvi_ops.specs.File.{MarkedPage}

-- The state of the pass: between pages; or inside a page with its counts, its marks so far, the places that pushes have saved (the last one first)
-- and the state. Both have the earlier pages.
pub data PassStateView : Type 0 where
  Between : List MarkedPage → PassStateView
  Inside : List MarkedPage → (counts : List ℤ) (marks : List Mark) (stack : List Position) → DviState → PassStateView

-- An instruction of a body adds its marks to the page.
abbrev pub with_marks : List MarkedPage → (counts : List ℤ) (marks : List Mark) (stack : List Position) → Meaning → Option PassStateView
with_marks pages counts marks stack None = None
with_marks pages counts marks stack (Some (more, s)) = Some (Inside pages counts (marks ++ more) stack s)

-- A pop restores the place that was saved last, but not the font.
abbrev pub popped_state : List MarkedPage → (counts : List ℤ) (marks : List Mark) (stack : List Position) → DviState → Option PassStateView
popped_state pages counts marks [] s = None
popped_state pages counts marks (p ∷ stack) s = Some (Inside pages counts marks stack (record { place = p; font = s.font }))

-- An eop ends a page whose pushes are all popped.
abbrev pub with_page_ended : List MarkedPage → (counts : List ℤ) (marks : List Mark) (stack : List Position) → Option PassStateView
with_page_ended pages counts marks [] = Some (Between (pages ++ record { counts = counts; marks = marks } ∷ []))
with_page_ended pages counts marks (p ∷ stack) = None

-- The pass after one instruction; None where it is not allowed, or pushes and pops do not match, or more than `most` pushes are open, or it has no
-- meaning.
abbrev pub execute : Acts → (most : ℕ) → Instruction → PassStateView → Option PassStateView
execute does most (Do Nop) (Between pages) = Some (Between pages)
execute does most (Do (FontDef d)) (Between pages) = Some (Between pages)
execute does most (Bop counts pointer) (Between pages) = Some (Inside pages counts [] [] start)
execute does most i (Between pages) = None
execute does most (Do leaf) (Inside pages counts marks stack s) = with_marks pages counts marks stack (does leaf s)
execute does most Push (Inside pages counts marks stack s) =
    if nat_lt (length stack) most then Some (Inside pages counts marks (s.place ∷ stack) s) else None
execute does most Pop (Inside pages counts marks stack s) = popped_state pages counts marks stack s
execute does most Eop (Inside pages counts marks stack s) = with_page_ended pages counts marks stack
execute does most i (Inside pages counts marks stack s) = None

-- The continuation after an instruction.
abbrev pub then_pass : (PassStateView → Option PassStateView) → Option PassStateView → Option PassStateView
then_pass next None = None
then_pass next (Some p) = next p

-- The pass over instructions in order.
abbrev pub passes : Acts → (most : ℕ) → List Instruction → PassStateView → Option PassStateView
passes does most [] p = Some p
passes does most (i ∷ rest) p = then_pass (passes does most rest) (execute does most i p)
