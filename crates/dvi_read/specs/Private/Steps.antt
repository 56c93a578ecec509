-- The rest of `Steps`, which no public contract reaches (own).
use Rattle.std.specs.Prelude.{◌≡◌, ◌++◌, true, List, map, ℕ, ℤ, Option, Some}
use Rattle.std.specs.List.{AllByRecursion}
use Rattle.dvi_ops.specs.Body.{instruction_acts, bounded_acts}
use Rattle.dvi_ops.specs.Fonts.{WidthsByName, IsRightAfter, definitions_in, selection_of}
use Rattle.dvi_ops.specs.Instruction.{FontDef, FontNum, Instruction, Do}
use Rattle.dvi_ops.specs.Tokens.{bop_place}
use Rattle.dvi_scan.specs.Drawing.{constant_width}
use Rattle.dvi_scan.specs.Pass.{execute}
use Rattle.dvi_scan.specs.Reached.{HasWidths, after_bops, has_number}
use Rattle.dvi_scan.specs.Execution.{IsTurnFault}
use Rattle.dvi_scan.specs.View.{marked_page}
use Rattle.dvi_scan.specs.declared.executing.PassFault.{PassFault}
use Rattle.dvi_scan.specs.declared.executing.PassFault.TheVariants.{OutOfMemory, Broken}
use Rattle.dvi_read.specs.ReadFonts.{AreSound, FontIsRead, asked_width, code_in}
use Rattle.dvi_read.specs.Private.ReadFonts.{Chooses}
use Rattle.dvi_read.specs.WalkFaults.{BreaksRest, FontIsUnread}
use Rattle.dvi_read.specs.declared.fault.StepFault.{StepFault}
use Rattle.dvi_read.specs.declared.fault.StepFault.TheVariants.{Pass, Font}
use Rattle.dvi_read.specs.declared.check.walk.Walk.{Walk}
use Rattle.tfm_core.specs.NamedBytes.{NamedBytes}
use Rattle.dvi_read.specs.Steps.{LacksFont, pass_state_of, known_of, places_left}

-- The effect of an instruction on pages and fonts is right and was recorded: a bop is among the places left of the chain, a definition was added, a
-- selected font was read.
pub record Notes (metrics : WidthsByName) (after_post : List ℤ) (at : ℕ) (i : Instruction) (old new : Walk) : Type 0 where
  pub bop : after_bops (bop_place at i) (places_left old) ≡ Some (places_left new)
  pub right : IsRightAfter (known_of old) i
  pub known_is : known_of new ≡ known_of old ++ definitions_in i
  pub widths : AllByRecursion (HasWidths metrics (known_of old)) (selection_of i)
  pub named : AllByRecursion (λ f. has_number after_post f ≡ true) (selection_of i)
  pub read : AllByRecursion (λ f. FontIsRead f new.fonts) (selection_of i)
  pub chosen : Chooses i old.fonts new.fonts
  pub kept : (g : ℤ) → FontIsRead g old.fonts → FontIsRead g new.fonts
  pub sound : AreSound metrics (known_of old) new.fonts
  pub pages : map marked_page new.done.items ≡ map marked_page old.done.items
  pub pass_state : new.pass_state ≡ old.pass_state

-- Memory is refused for the effect of an instruction on fonts.
abbrev pub LacksNote : List NamedBytes → (after_post : List ℤ) → Instruction → Walk → Type 0
LacksNote files after_post (Do (FontDef d)) walk = IsRightAfter (known_of walk) (Do (FontDef d))
LacksNote files after_post (Do (FontNum f)) walk = LacksFont files after_post (known_of walk) f walk.fonts
LacksNote files after_post i walk = ⊥

-- Why the effect of an instruction is not recorded.
abbrev pub BreaksNote : List NamedBytes → (after_post : List ℤ) → (at : ℕ) → Instruction → Walk → StepFault → Type 0
BreaksNote files after_post at i walk (Pass OutOfMemory) = LacksNote files after_post i walk
BreaksNote files after_post at i walk (Pass (Broken cause)) = BreaksRest after_post (known_of walk) at (places_left walk) i cause
BreaksNote files after_post at i walk (Font refusal) = (f : ℤ) × (i ≡ Do (FontNum f)) × FontIsUnread files after_post (known_of walk) f refusal

-- The width of the character that an instruction sets or puts, in the font that was selected last.
abbrev pub asked_of : Walk → Instruction → Option ℤ
asked_of walk i = asked_width walk.fonts (code_in i)

-- The pass goes on, and the rest of the walk is unchanged.
pub record PassesOn (most : ℕ) (i : Instruction) (old new : Walk) : Type 0 where
  pub goes_on : execute (bounded_acts (instruction_acts (constant_width (asked_of old i)))) most i (pass_state_of old) ≡ Some (pass_state_of new)
  pub known : known_of new ≡ known_of old
  pub fonts : new.fonts ≡ old.fonts
  pub left : places_left new ≡ places_left old

-- The pass does not go on, or memory is refused for it.
abbrev pub BreaksPass : (most : ℕ) → Instruction → Walk → PassFault → Type 0
BreaksPass most i walk fault = IsTurnFault (instruction_acts (constant_width (asked_of walk i))) most i (pass_state_of walk) fault
