-- One instruction in the state of the pass (DVItype, 15), and the rule that it breaks (own).
use Rattle.std.specs.Prelude.{◌≡◌, ◌≢◌, ◌<◌, ◌≤◌, [], ◌∷◌, List, length, map, reverse, vec_capacity, vec_len, ℕ, ℤ, Option, Some, None, Result, Ok}
use Rattle.std.specs.Prelude.{Err, IsSome}
use Rattle.dvi_ops.specs.Instruction.{SetChar, PutChar, Nop, FontDef, Instruction, Do, Push, Pop, Bop, Eop}
use Rattle.dvi_ops.specs.Body.{Acts, DviState, Widths, bounded_acts, kept_in}
use Rattle.scaled_core.specs.Mark.{Mark}
use Rattle.dvi_ops.specs.File.{MarkedPage}
use Rattle.dvi_scan.specs.declared.fault.DviCause.{DviCause}
use Rattle.dvi_scan.specs.declared.fault.DviCause.TheVariants.{Opcode, Stack, Glyph, Range}
use Rattle.dvi_scan.specs.declared.fault.FrameFault.{FrameFault}
use Rattle.dvi_scan.specs.declared.fault.FrameFault.TheVariants as frames
use Rattle.dvi_scan.specs.Pass.{PassStateView, Between, Inside, execute}
use Rattle.dvi_scan.specs.View.{mark_of, spot_position, dvi_state}
use Rattle.dvi_scan.specs.declared.executing.OpenPage.{OpenPage}
use Rattle.dvi_scan.specs.declared.executing.PassState.{PassState}
use Rattle.dvi_scan.specs.declared.executing.PassState.TheVariants as states
use Rattle.dvi_scan.specs.declared.executing.PassFault.{PassFault}
use Rattle.dvi_scan.specs.declared.executing.PassFault.TheVariants.{OutOfMemory, Broken}

-- An instruction is allowed in the state of the pass: between pages a nop, a font definition and a bop; inside a page all but bop, pre, post and
-- post_post.
abbrev pub IsAllowed : PassStateView → Instruction → Type 0
IsAllowed (Between pages) (Do Nop) = Unit {0}
IsAllowed (Between pages) (Do (FontDef d)) = Unit {0}
IsAllowed (Between pages) (Bop counts pointer) = Unit {0}
IsAllowed (Between pages) i = ⊥
IsAllowed (Inside pages counts marks stack s) (Do leaf) = Unit {0}
IsAllowed (Inside pages counts marks stack s) Push = Unit {0}
IsAllowed (Inside pages counts marks stack s) Pop = Unit {0}
IsAllowed (Inside pages counts marks stack s) Eop = Unit {0}
IsAllowed (Inside pages counts marks stack s) i = ⊥

-- A rule that an instruction breaks in the state of the pass: it is not allowed; a push, pop or eop meets the wrong number of open pushes; a
-- character is missing, or no font is selected; h or v leaves signed 32 bits.
abbrev pub BreaksTurn : Acts → (most : ℕ) → Instruction → PassStateView → DviCause → Type 0
BreaksTurn does most i p Opcode = IsAllowed p i → ⊥
BreaksTurn does most Push (Inside pages counts marks stack s) Stack = most ≤ length stack
BreaksTurn does most Pop (Inside pages counts marks stack s) Stack = stack ≡ []
BreaksTurn does most Eop (Inside pages counts marks stack s) Stack = stack ≢ []
BreaksTurn does most (Do leaf) (Inside pages counts marks stack s) Glyph = does leaf s ≡ None
BreaksTurn does most (Do leaf) (Inside pages counts marks stack s) Range = IsSome (does leaf s) × (kept_in (does leaf s) ≡ None)
BreaksTurn does most i p cause = ⊥

-- The state of the pass in an open page, after these pages.
abbrev pub inside_of : List MarkedPage → OpenPage → PassStateView
inside_of pages p = Inside pages p.counts (map mark_of p.marks.items) (reverse (map spot_position p.stack.items)) (dvi_state p.state)

-- The state of the pass, after these pages.
abbrev pub pass_at : List MarkedPage → PassState → PassStateView
pass_at pages states.Between = Between pages
pass_at pages (states.Inside p) = inside_of pages p

-- A right instruction that takes memory: a push for the place, an eop for the page, and others for their mark.
abbrev pub TakesMemory : Acts → (most : ℕ) → Instruction → PassStateView → Type 0
TakesMemory does most Push (Inside pages counts marks stack s) = length stack < most
TakesMemory does most Eop (Inside pages counts marks stack s) = stack ≡ []
TakesMemory does most (Do leaf) (Inside pages counts marks stack s) = (mark : Mark) × (t : DviState) × (kept_in (does leaf s) ≡ Some (mark ∷ [], t))
TakesMemory does most i p = ⊥

-- A fault is refused memory for a right instruction, or names a broken rule.
abbrev pub IsTurnFault : Acts → (most : ℕ) → Instruction → PassStateView → PassFault → Type 0
IsTurnFault does most i p OutOfMemory = TakesMemory does most i p
IsTurnFault does most i p (Broken cause) = BreaksTurn does most i p cause

-- The fault of an instruction at a place of the file.
abbrev pub fault_at : (place : ℕ) → PassFault → FrameFault
fault_at place OutOfMemory = frames.OutOfMemory
fault_at place (Broken cause) = frames.Bad (record { place = place; cause = cause })

-- The result for an instruction that takes the pass from one state to another.
abbrev pub Executes : {A : Type 0} → Acts → (most : ℕ) → Instruction → (old new : PassStateView) → Result A PassFault → Type 0
Executes does most i old new (Ok done) = execute (bounded_acts does) most i old ≡ Some new
Executes does most i old new (Err fault) = IsTurnFault does most i old fault

-- The result for an instruction in an open page that stays open. A refusal leaves the page as it was (own).
abbrev pub TurnsPage : {A : Type 0} → Acts → (most : ℕ) → Instruction → List MarkedPage → (old new : OpenPage) → Result A PassFault → Type 0
TurnsPage does most i pages old new (Ok done) = execute (bounded_acts does) most i (inside_of pages old) ≡ Some (inside_of pages new)
TurnsPage does most i pages old new (Err fault) = IsTurnFault does most i (inside_of pages old) fault × (inside_of pages new ≡ inside_of pages old)

-- An open page has space for one more mark, and for as many saved places as pushes may be open.
pub record HasPageSpace (most : ℕ) (page : OpenPage) : Type 0 where
  pub mark : vec_len page.marks < vec_capacity page.marks
  pub places : most ≤ page.stack.capacity

-- Where an open page has space, memory is not refused. The space for marks and for saved places does not shrink.
pub record KeepsSpace {A : Type 0} (most : ℕ) (old new : OpenPage) (result : Result A PassFault) : Type 0 where
  pub taken : HasPageSpace most old → result ≢ Err OutOfMemory
  pub marks : vec_capacity old.marks ≤ vec_capacity new.marks
  pub places : old.stack.capacity ≤ new.stack.capacity

-- The width that is needed in the state of the pass: that of the character that an instruction sets or puts, in the current font, if one is selected.
abbrev pub IsAsked : Widths → Instruction → PassStateView → Option ℤ → Type 0
IsAsked widths (Do (SetChar c)) (Inside pages counts marks stack s) width = (f : ℤ) → s.font ≡ Some f → width ≡ widths f c
IsAsked widths (Do (PutChar c)) (Inside pages counts marks stack s) width = (f : ℤ) → s.font ≡ Some f → width ≡ widths f c
IsAsked widths i p width = Unit {0}
