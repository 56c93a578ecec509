-- The rest of `Walks`, which no public contract reaches (own).
use Rattle.std.specs.Prelude.{◌≡◌, ◌≤◌, ◌<◌, ◌-◌, [], false, List, drop, take, ℕ, ℤ}
use Rattle.std.specs.BTreeMap.{IsEmpty}
use Rattle.dvi_ops.specs.Fonts.{WidthsByName}
use Rattle.dvi_ops.specs.Instruction.{Instruction}
use Rattle.dvi_ops.specs.Table.{Spells}
use Rattle.dvi_scan.specs.declared.executing.PassState.TheVariants as states
use Rattle.dvi_read.specs.Steps.{FontsAreRead, IsWalkStep, so_far}
use Rattle.dvi_read.specs.WalkFaults.{PageBytes, IsPagesFault}
use Rattle.dvi_read.specs.Faults.{fault_in}
use Rattle.dvi_read.specs.declared.fault.StepFault.{StepFault}
use Rattle.dvi_read.specs.declared.check.walk.Walk.{Walk}
use Rattle.tfm_core.specs.NamedBytes.{NamedBytes}

-- One instruction was read and accepted.
pub record Reads (metrics : WidthsByName) (part : PageBytes) (at : ℕ) (old new : Walk) (next : ℕ) : Type 0 where
  pub forward : at < next
  pub within : next ≤ part.post
  pub here : Instruction
  pub spelled : Spells here (take (next - at) (drop at part.bytes))
  pub steps : IsWalkStep metrics part.after_post part.most at here old new

-- No instruction was accepted, for any fonts that may have been selected so far and were all read.
abbrev pub IsReadingFault : List NamedBytes → PageBytes → (at : ℕ) → Walk → StepFault → Type 0
IsReadingFault files part at walk fault = (selected : List ℤ) → FontsAreRead walk.fonts selected
    → IsPagesFault files part at (so_far selected walk) (fault_in at fault)

-- A walk before the first page.
pub record IsBegun (left : List ℕ) (walk : Walk) : Type 0 where
  pub pass_state : walk.pass_state ≡ states.Between
  pub done : walk.done.items ≡ []
  pub known : walk.known ≡ []
  pub fonts : walk.fonts.all.items ≡ []
  pub indices : IsEmpty walk.fonts.indices
  pub left_is : walk.left.now ≡ left
  pub missed : walk.missed ≡ false
