-- The rest of `Closing`, which no public contract reaches (own).
use Rattle.std.specs.Prelude.{◌≡◌, ◌≤◌, ◌<◌, ◌-◌, ◌++◌, List, drop, take, ℕ}
use Rattle.dvi_ops.specs.File.{IsIdle}
use Rattle.dvi_ops.specs.Fonts.{IsRightAfter, definitions_in}
use Rattle.dvi_ops.specs.Instruction.{Definition, FontDef, Instruction, Do}
use Rattle.dvi_ops.specs.Table.{Spells}
use Rattle.dvi_scan.specs.Ends.{IsSpelledAt}
use Rattle.dvi_scan.specs.declared.fault.FrameFault.{FrameFault}
use Rattle.dvi_scan.specs.declared.fault.FrameFault.TheVariants as frames
use Rattle.dvi_scan.specs.Closing.{BreaksClosing}

-- One such instruction.
pub record ClosesOne (bytes : List ℕ) (at to : ℕ) (old new : List Definition) (next : ℕ) : Type 0 where
  pub forward : at < next
  pub within : next ≤ to
  pub here : Instruction
  pub spelled : Spells here (take (next - at) (drop at bytes))
  pub idle : IsIdle here
  pub right : IsRightAfter old here
  pub new_is : new ≡ old ++ definitions_in here

-- A fault at a place, which leaves the definitions unchanged. Memory is refused only at a definition that is right.
abbrev pub IsFaultAt : List ℕ → (at to : ℕ) → (old new : List Definition) → FrameFault → Type 0
IsFaultAt bytes at to old new frames.OutOfMemory =
    (new ≡ old) × (d : Definition) × IsSpelledAt bytes at to (Do (FontDef d)) × IsRightAfter old (Do (FontDef d))
IsFaultAt bytes at to old new (frames.Bad fault) = (fault.place ≡ at) × (new ≡ old) × BreaksClosing bytes at to old fault.cause
