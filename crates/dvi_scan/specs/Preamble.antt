-- The preamble of a file (DVItype, 17).
use Rattle.std.specs.Prelude.{◌≡◌, ◌≤◌, List, take, ℕ}
use Rattle.dvi_ops.specs.Instruction.{Postamble, Pre}
use Rattle.dvi_ops.specs.Table.{Spells}
use Rattle.dvi_ops.specs.File.{AreUnits}
use Rattle.dvi_scan.specs.Ends.{IsSpelledAt}
use Rattle.dvi_scan.specs.declared.fault.BadDvi.{BadDvi}
use Rattle.dvi_scan.specs.declared.fault.DviCause.TheVariants.{Preamble}

-- The first bytes spell a preamble of version 2 with the units of the postamble, which are positive, and it ends at or before post.
pub record HasPreamble (bytes : List ℕ) (post : ℕ) (postamble : Postamble) (after : ℕ) : Type 0 where
  pub comment : List ℕ
  pub spelled : Spells (Pre 2 postamble.units comment) (take after bytes)
  pub within : after ≤ post
  pub units : AreUnits postamble.units

-- There is no such preamble, and the fault is Preamble at place 0.
pub record IsPreambleFault (bytes : List ℕ) (post : ℕ) (postamble : Postamble) (fault : BadDvi) : Type 0 where
  pub place : fault.place ≡ 0
  pub cause : fault.cause ≡ Preamble
  pub none : (comment : List ℕ) → IsSpelledAt bytes 0 post (Pre 2 postamble.units comment) → AreUnits postamble.units → ⊥
