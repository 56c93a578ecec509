-- One instruction of the pages, as the code processes it (own). No clause of a call that other crates use to read a file reaches these definitions:
-- they are about the values of the code.
use Rattle.std.specs.Prelude.{◌≡◌, ◌++◌, ◌⊎◌, false, true, List, map, reverse, ℕ, ℤ, Some, None}
use Rattle.std.specs.List.{AllByRecursion}
use Rattle.dvi_scan.specs.Widths.{MayAllocate}
use Rattle.dvi_scan.specs.declared.executing.PassFault.TheVariants.{OutOfMemory, Broken}
use Rattle.dvi_scan.specs.declared.fault.DviCause.TheVariants as causes
use Rattle.dvi_ops.specs.Body.{instruction_acts, bounded_acts}
use Rattle.dvi_ops.specs.Fonts.{WidthsByName, IsRightAfter, first_definition_of, definitions_in, selection_of, widths_of}
use Rattle.dvi_ops.specs.Instruction.{Definition, FontNum, Instruction, Do}
use Rattle.dvi_ops.specs.Tokens.{bop_place}
use Rattle.dvi_scan.specs.Pass.{PassStateView, execute}
use Rattle.dvi_scan.specs.Reached.{HasWidths, PlacesLeft, ReadSoFar, after_bops, has_number}
use Rattle.dvi_scan.specs.Execution.{pass_at}
use Rattle.dvi_scan.specs.View.{marked_page}
use Rattle.dvi_read.specs.ReadFonts.{AreSound, HasCurrent, IsCurrent, FontIsRead, font_index}
use Rattle.dvi_read.specs.declared.fonts.ReadFonts.{ReadFonts}
use Rattle.dvi_read.specs.WalkFaults.{BreaksRule, FontIsUnread, SelectsUnread, InstructionAllocates}
use Rattle.dvi_read.specs.declared.fault.StepFault.{StepFault}
use Rattle.dvi_read.specs.declared.fault.StepFault.TheVariants.{Pass, Font}
use Rattle.dvi_read.specs.declared.check.walk.Walk.{Walk}
use Rattle.tfm_core.specs.FileWidths.{file_widths}
use Rattle.tfm_core.specs.NamedBytes.{NamedBytes}

-- A font was selected: its number is defined after post, it has widths among the definitions before it, and it was read.
pub record Selects (metrics : WidthsByName) (after_post : List ℤ) (known : List Definition) (f : ℤ) (old new : ReadFonts) : Type 0 where
  pub named : has_number after_post f ≡ true
  pub widths : HasWidths metrics known f
  pub current : HasCurrent f new
  pub sound : AreSound metrics known new
  pub kept : (g : ℤ) → FontIsRead g old → FontIsRead g new

-- The number of a selected font is not defined before the selection, or not after post.
abbrev pub IsUndefined : (after_post : List ℤ) → (known : List Definition) → ℤ → Type 0
IsUndefined after_post known f = (first_definition_of f known ≡ None) ⊎ (has_number after_post f ≡ false)

-- Memory is refused for a font: it was not read before, and a file with its name was given that breaks no rule that needs no table.
pub record LacksFont (files : List NamedBytes) (after_post : List ℤ) (known : List Definition) (f : ℤ) (fonts : ReadFonts) : Type 0 where
  pub named : has_number after_post f ≡ true
  pub new : font_index f fonts ≡ None
  pub font : Definition
  pub found : first_definition_of f known ≡ Some font
  pub file : MayAllocate files font

-- Why a font was not selected, where these fonts were read.
abbrev pub IsSelectFault : List NamedBytes → (after_post : List ℤ) → (known : List Definition) → ReadFonts → ℤ → StepFault → Type 0
IsSelectFault files after_post known fonts f (Pass OutOfMemory) = LacksFont files after_post known f fonts
IsSelectFault files after_post known fonts f (Pass (Broken cause)) = (cause ≡ causes.Font) × IsUndefined after_post known f
IsSelectFault files after_post known fonts f (Font refusal) = FontIsUnread files after_post known f refusal

-- The state of a walk in the pass.
abbrev pub pass_state_of : Walk → PassStateView
pass_state_of walk = pass_at (map marked_page walk.done.items) walk.pass_state

-- The definitions that a walk knows, in the order of the file.
abbrev pub known_of : Walk → List Definition
known_of walk = walk.known

-- The places left of the chain of pages.
abbrev pub places_left : Walk → PlacesLeft
places_left walk = record { missed = walk.missed; places = reverse walk.left.now }

-- What was read of a file, from the state of a walk and the selected fonts.
abbrev pub so_far : (selected : List ℤ) → Walk → ReadSoFar
so_far selected walk = record { pass = pass_state_of walk; known = known_of walk; selected = selected; left = places_left walk }

-- Each of these fonts was read.
abbrev pub FontsAreRead : ReadFonts → List ℤ → Type 0
FontsAreRead fonts selected = AllByRecursion (λ f. FontIsRead f fonts) selected

-- One more instruction: the pass goes on, and the effect on pages and fonts is right and was recorded.
pub record IsWalkStep (metrics : WidthsByName) (after_post : List ℤ) (most at : ℕ) (i : Instruction) (old new : Walk) : Type 0 where
  pub goes_on : execute (bounded_acts (instruction_acts (widths_of metrics (known_of old)))) most i (pass_state_of old) ≡ Some (pass_state_of new)
  pub bop : after_bops (bop_place at i) (places_left old) ≡ Some (places_left new)
  pub right : IsRightAfter (known_of old) i
  pub known_is : known_of new ≡ known_of old ++ definitions_in i
  pub widths : AllByRecursion (HasWidths metrics (known_of old)) (selection_of i)
  pub named : AllByRecursion (λ f. has_number after_post f ≡ true) (selection_of i)
  pub read : AllByRecursion (λ f. FontIsRead f new.fonts) (selection_of i)
  pub kept : (g : ℤ) → FontIsRead g old.fonts → FontIsRead g new.fonts
  pub sound : AreSound metrics (known_of new) new.fonts
  pub current : IsCurrent new.fonts new.pass_state

-- Why an instruction is not accepted.
abbrev pub BreaksStep : List NamedBytes → (after_post : List ℤ) → (most at : ℕ) → ReadSoFar → Instruction → StepFault → Type 0
BreaksStep files after_post most at s i (Pass OutOfMemory) = InstructionAllocates files after_post most s i
BreaksStep files after_post most at s i (Pass (Broken cause)) = BreaksRule (file_widths files) after_post most at s i cause
BreaksStep files after_post most at s i (Font refusal) = (f : ℤ) × (i ≡ Do (FontNum f)) × SelectsUnread files after_post most s f refusal

-- The same for a walk, for any fonts that may have been selected so far and were all read.
abbrev pub IsStepFault : List NamedBytes → (after_post : List ℤ) → (most at : ℕ) → Instruction → Walk → StepFault → Type 0
IsStepFault files after_post most at i walk fault = (selected : List ℤ) → FontsAreRead walk.fonts selected
    → BreaksStep files after_post most at (so_far selected walk) i fault
