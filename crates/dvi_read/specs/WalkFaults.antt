-- Why the reading of the pages of a file stops (own): the rule that is broken at a place, where all instructions before it are right. The definitions
-- are about the file and what was read of it so far.
use Rattle.std.specs.Prelude.{◌≡◌, ◌≢◌, ◌≤◌, ◌<◌, ◌⊎◌, min, [], false, true, List, slice_index, ℕ, ℤ, Some, None, IsSome}
use Rattle.dvi_scan.specs.Widths.{IsFontRefusal, MayAllocate}
use Rattle.dvi_scan.specs.declared.widths.FontRefusal.{FontRefusal}
use Rattle.dvi_scan.specs.Ends.{IsSpelledAt}
use Rattle.dvi_scan.specs.declared.fault.BadDvi.{BadDvi}
use Rattle.dvi_scan.specs.declared.fault.DviCause.{DviCause}
use Rattle.dvi_scan.specs.declared.fault.DviCause.TheVariants.{Opcode, Truncated, Pointer, Font}
use Rattle.dvi_ops.specs.Body.{instruction_acts, bounded_acts}
use Rattle.dvi_ops.specs.File.{MarkedPage, max_pushes}
use Rattle.dvi_ops.specs.Fonts.{WidthsByName, IsRightAfter, first_definition_of, widths_of}
use Rattle.dvi_ops.specs.Instruction.{Definition, FontDef, FontNum, Instruction, Do, Postamble}
use Rattle.dvi_ops.specs.Tokens.{bop_place}
use Rattle.dvi_scan.specs.Pass.{PassStateView, Between, execute}
use Rattle.dvi_scan.specs.Reached.{IsReached, PlacesLeft, ReadSoFar, all_left, after_bops, has_number}
use Rattle.dvi_scan.specs.Execution.{BreaksTurn, TakesMemory}
use Rattle.dvi_read.specs.declared.fault.DviFault.{DviFault}
use Rattle.dvi_read.specs.declared.fault.DviFault.TheVariants as faults
use Rattle.tfm_core.specs.FileWidths.{file_widths}
use Rattle.tfm_core.specs.NamedBytes.{NamedBytes}

-- Why a selected font is refused, whose number is defined after post too, by its first definition, which is before the selection: no file with its
-- name was given, and the refusal has this name; or the file is bad, or a dimension at the size does not fit.
pub record FontIsUnread (files : List NamedBytes) (after_post : List ℤ) (known : List Definition) (f : ℤ) (refusal : FontRefusal) : Type 0 where
  pub named : has_number after_post f ≡ true
  pub font : Definition
  pub found : first_definition_of f known ≡ Some font
  pub refused : IsFontRefusal files font refusal

-- Memory is refused for a selected font: it was not selected before, its number is defined after post too, and a file with the name in its first
-- definition was given that breaks no rule that needs no table.
pub record LacksMemoryForFont (files : List NamedBytes) (after_post : List ℤ) (s : ReadSoFar) (f : ℤ) : Type 0 where
  pub named : has_number after_post f ≡ true
  pub new : has_number s.selected f ≡ false
  pub font : Definition
  pub found : first_definition_of f s.known ≡ Some font
  pub file : MayAllocate files font

-- The effect of an instruction on pages or fonts is wrong: a bop is not among the places left of the chain; a definition has no valid size or differs
-- from an earlier one; a selected font is not defined before, or its number is not defined after post.
abbrev pub BreaksRest : (after_post : List ℤ) → (known : List Definition) → (at : ℕ) → (left : PlacesLeft) → Instruction → DviCause → Type 0
BreaksRest after_post known at left i Pointer = after_bops (bop_place at i) left ≡ None
BreaksRest after_post known at left i Font = (IsRightAfter known i → ⊥) ⊎ (f : ℤ) × (i ≡ Do (FontNum f)) × (has_number after_post f ≡ false)
BreaksRest after_post known at left i cause = ⊥

-- Memory is refused for the effect of an instruction on fonts: for a right definition, or for a font that it selects.
abbrev pub LacksMemory : List NamedBytes → (after_post : List ℤ) → ReadSoFar → Instruction → Type 0
LacksMemory files after_post s (Do (FontDef d)) = IsRightAfter s.known (Do (FontDef d))
LacksMemory files after_post s (Do (FontNum f)) = LacksMemoryForFont files after_post s f
LacksMemory files after_post s i = ⊥

-- The pass goes on with an instruction. The effect on pages and fonts is tested only then.
abbrev pub PassContinues : WidthsByName → (most : ℕ) → ReadSoFar → Instruction → Type 0
PassContinues metrics most s i = IsSome (execute (bounded_acts (instruction_acts (widths_of metrics s.known))) most i s.pass)

-- A rule that an instruction breaks: one of the pass, or, where the pass goes on, one of the pages or of the fonts.
abbrev pub BreaksRule : WidthsByName → (after_post : List ℤ) → (most at : ℕ) → ReadSoFar → Instruction → DviCause → Type 0
BreaksRule metrics after_post most at s i cause =
    BreaksTurn (instruction_acts (widths_of metrics s.known)) most i s.pass cause ⊎ PassContinues metrics most s i
    × BreaksRest after_post s.known at s.left i cause

-- An instruction takes memory: in the pass, or, where that goes on, for its effect on fonts.
abbrev pub InstructionAllocates : List NamedBytes → (after_post : List ℤ) → (most : ℕ) → ReadSoFar → Instruction → Type 0
InstructionAllocates files after_post most s i =
    TakesMemory (instruction_acts (widths_of (file_widths files) s.known)) most i s.pass ⊎ PassContinues (file_widths files) most s i
    × LacksMemory files after_post s i

-- A font is selected where the pass goes on, and it has no widths.
pub record SelectsUnread (files : List NamedBytes) (after_post : List ℤ) (most : ℕ) (s : ReadSoFar) (f : ℤ) (refusal : FontRefusal) : Type 0 where
  pub goes_on : PassContinues (file_widths files) most s (Do (FontNum f))
  pub unread : FontIsUnread files after_post s.known f refusal

-- The bytes of the pages: those before post, with the numbers of the fonts that are defined after post, and the most pushes that may be open.
pub record PageBytes : Type 0 where
  pub after_post : List ℤ
  pub bytes : List ℕ
  pub most : ℕ
  pub post : ℕ

abbrev pub page_bytes : (after_post : List ℤ) → (bytes : List ℕ) → (most post : ℕ) → PageBytes
page_bytes after_post bytes most post = record { after_post = after_post; bytes = bytes; most = most; post = post }

-- An instruction at a place before post breaks a rule.
abbrev pub BreaksAt : WidthsByName → PageBytes → (at : ℕ) → ReadSoFar → DviCause → Type 0
BreaksAt metrics part at s cause = (i : Instruction) × IsSpelledAt part.bytes at part.post i
    × BreaksRule metrics part.after_post part.most at s i cause

-- A rule of the pages is broken at a place: a byte begins an instruction that is cut off by post; a byte begins none; or the instruction breaks the
-- rule.
abbrev pub BreaksPages : WidthsByName → PageBytes → (at : ℕ) → ReadSoFar → DviCause → Type 0
BreaksPages metrics part at s Truncated = (250 ≤ slice_index part.bytes at → ⊥) × ((i : Instruction) → IsSpelledAt part.bytes at part.post i → ⊥)
BreaksPages metrics part at s Opcode =
    (250 ≤ slice_index part.bytes at) × ((i : Instruction) → IsSpelledAt part.bytes at part.post i → ⊥) ⊎ BreaksAt metrics part at s Opcode
BreaksPages metrics part at s cause = BreaksAt metrics part at s cause

-- A font is selected at a place in a page, is defined before it and after post, and has no widths for this reason.
abbrev pub LacksWidths : List NamedBytes → PageBytes → (at : ℕ) → ReadSoFar → FontRefusal → Type 0
LacksWidths files part at s refusal =
    (f : ℤ) × IsSpelledAt part.bytes at part.post (Do (FontNum f)) × SelectsUnread files part.after_post part.most s f refusal

-- A fault at a place. Memory is refused only for an instruction that is there.
abbrev pub IsPagesFault : List NamedBytes → PageBytes → (at : ℕ) → ReadSoFar → DviFault → Type 0
IsPagesFault files part at s faults.OutOfMemory =
    (i : Instruction) × IsSpelledAt part.bytes at part.post i × InstructionAllocates files part.after_post part.most s i
IsPagesFault files part at s (faults.Bad fault) = (fault.place ≡ at) × BreaksPages (file_widths files) part at s fault.cause
IsPagesFault files part at s (faults.Font refusal) = LacksWidths files part at s refusal

-- Why the reading of the pages stops at a place before post, where all instructions before the place are right.
pub record HasFaultAt (files : List NamedBytes) (part : PageBytes) (postamble : Postamble) (chain : List ℕ) (at : ℕ) (fault : DviFault) : Type 0 where
  pub before : at < part.post
  pub seen : ReadSoFar
  pub reached : IsReached (file_widths files) part.after_post part.bytes postamble chain at seen
  pub fault_is : IsPagesFault files part at seen fault

-- The same for a fault at some place.
abbrev pub IsWalkFault : List NamedBytes → (after_post : List ℤ) → (bytes : List ℕ) → Postamble → (chain : List ℕ) → (post : ℕ) → DviFault → Type 0
IsWalkFault files after_post bytes postamble chain post fault =
    (at : ℕ) × HasFaultAt files (page_bytes after_post bytes (min max_pushes postamble.stack_depth) post) postamble chain at fault

-- At the place of post no page is open, no place of the chain is still to come, and none was missed.
pub record PagesHaveEnded (p : PassStateView) (left : PlacesLeft) (pages : List MarkedPage) : Type 0 where
  pub between : p ≡ Between pages
  pub none : left ≡ all_left []

-- A page is open there, and the fault is Opcode; or none is open, some place of the chain was no bop, and the fault is Pointer.
abbrev pub IsUnended : PassStateView → PlacesLeft → (post : ℕ) → BadDvi → Type 0
IsUnended p left post fault =
    (fault.place ≡ post)
    × ((fault.cause ≡ Opcode) × ((pages : List MarkedPage) → p ≡ Between pages → ⊥) ⊎ (fault.cause ≡ Pointer)
    × ((pages : List MarkedPage) × (p ≡ Between pages)) × (left ≢ all_left []))
