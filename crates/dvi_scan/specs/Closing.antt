-- The instructions between post and post_post: nops and definitions of fonts (DVItype, 18 and 19); and how they may be broken (own).
use Rattle.std.specs.Prelude.{◌≡◌, ◌≤◌, ◌<◌, ◌-◌, ◌++◌, ◌⊎◌, List, drop, slice_index, take, ℕ}
use Rattle.std.specs.List.{AllByRecursion}
use Rattle.dvi_ops.specs.File.{IsIdle}
use Rattle.dvi_ops.specs.Fonts.{FontsAreRight, IsRightAfter, definitions}
use Rattle.dvi_ops.specs.Instruction.{Definition, FontDef, Instruction, Do}
use Rattle.dvi_ops.specs.Tokens.{Token, IsSpelled, token_instructions, token_bytes}
use Rattle.dvi_scan.specs.Ends.{IsSpelledAt}
use Rattle.dvi_scan.specs.declared.fault.DviCause.{DviCause}
use Rattle.dvi_scan.specs.declared.fault.DviCause.TheVariants.{Opcode, Truncated, Font}
use Rattle.dvi_scan.specs.declared.fault.FrameFault.{FrameFault}
use Rattle.dvi_scan.specs.declared.fault.FrameFault.TheVariants as frames
use Rattle.dvi_scan.specs.declared.executing.PassFault.{PassFault}
use Rattle.dvi_scan.specs.declared.executing.PassFault.TheVariants as faults

-- A definition is wrong after the known ones, and the fault is Font; or it is right, and memory is refused for it.
abbrev pub IsDefinitionFault : List Definition → Definition → PassFault → Type 0
IsDefinitionFault known d faults.OutOfMemory = IsRightAfter known (Do (FontDef d))
IsDefinitionFault known d (faults.Broken cause) = (cause ≡ Font) × (IsRightAfter known (Do (FontDef d)) → ⊥)

-- Between two places there are only nops and definitions, which are right after the known ones.
pub record Closes (bytes : List ℕ) (from to : ℕ) (known : List Definition) (tail : List Token) : Type 0 where
  pub spelled : AllByRecursion IsSpelled tail
  pub whole : token_bytes tail ≡ take (to - from) (drop from bytes)
  pub idle : AllByRecursion IsIdle (token_instructions tail)
  pub fonts : FontsAreRight known (token_instructions tail)

-- Such instructions are there, and their definitions come after the others.
abbrev pub ClosesTo : List ℕ → (from to : ℕ) → (old new : List Definition) → Type 0
ClosesTo bytes from to old new = (tail : List Token) × Closes bytes from to old tail × (new ≡ old ++ definitions (token_instructions tail))

-- A rule is broken at a place, after these definitions: a byte begins an instruction that is cut off; or it begins none, or one that is neither a nop
-- nor a definition; or a definition has no valid size, or differs from another one of its number.
abbrev pub BreaksClosing : List ℕ → (place to : ℕ) → (known : List Definition) → DviCause → Type 0
BreaksClosing bytes place to known Truncated = (250 ≤ slice_index bytes place → ⊥) × ((i : Instruction) → IsSpelledAt bytes place to i → ⊥)
BreaksClosing bytes place to known Opcode =
    (250 ≤ slice_index bytes place) × ((i : Instruction) → IsSpelledAt bytes place to i → ⊥) ⊎ (i : Instruction) × IsSpelledAt bytes place to i
    × (IsIdle i → ⊥)
BreaksClosing bytes place to known Font = (d : Definition) × IsSpelledAt bytes place to (Do (FontDef d)) × (IsRightAfter known (Do (FontDef d)) → ⊥)
BreaksClosing bytes place to known cause = ⊥

-- A fault on the way: the instructions before its place are right, and their definitions come after the others. Memory is refused only at a right
-- definition.
abbrev pub IsClosingFault : List ℕ → (from to : ℕ) → (old new : List Definition) → FrameFault → Type 0
IsClosingFault bytes from to old new frames.OutOfMemory =
    (place : ℕ) × (from ≤ place) × (place < to) × ClosesTo bytes from place old new × (d : Definition) × IsSpelledAt bytes place to (Do (FontDef d))
    × IsRightAfter new (Do (FontDef d))
IsClosingFault bytes from to old new (frames.Bad fault) =
    (from ≤ fault.place) × (fault.place < to) × ClosesTo bytes from fault.place old new × BreaksClosing bytes fault.place to new fault.cause
