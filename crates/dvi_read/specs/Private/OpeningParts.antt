-- The rest of `OpeningParts`, which no public contract reaches (own).
use Rattle.std.specs.Prelude.{◌≡◌, ◌⊎◌, ◌-◌, List, ℕ, ℤ}
use Rattle.dvi_scan.specs.Closing.{IsClosingFault}
use Rattle.dvi_scan.specs.declared.fault.FrameFault.TheVariants as frames
use Rattle.dvi_ops.specs.File.{MarkedPage}
use Rattle.dvi_ops.specs.Instruction.{Definition}
use Rattle.dvi_scan.specs.Pass.{PassStateView}
use Rattle.dvi_scan.specs.Passed.{Framing}
use Rattle.dvi_scan.specs.Reached.{PlacesLeft}
use Rattle.dvi_read.specs.Opening.{HasPages}
use Rattle.dvi_read.specs.ReadFonts.{AreSound}
use Rattle.dvi_read.specs.Steps.{FontsAreRead, known_of, pass_state_of}
use Rattle.dvi_read.specs.WalkFaults.{PagesHaveEnded, IsUnended}
use Rattle.dvi_read.specs.declared.fault.DviFault.{DviFault}
use Rattle.dvi_read.specs.declared.fault.DviFault.TheVariants.{Bad, OutOfMemory}
use Rattle.dvi_read.specs.Walks.{bare, read_in}
use Rattle.dvi_read.specs.declared.check.walk.Walk.{Walk}
use Rattle.tfm_core.specs.FileWidths.{file_widths}
use Rattle.tfm_core.specs.NamedBytes.{NamedBytes}

-- All instructions before post are right, and a walk, which keeps no mark, holds the rest of what was read there. Each selected font was read, and
-- has the widths of the files.
pub record HasPassed (files : List NamedBytes) (bytes : List ℕ) (parts : Framing) (from : ℕ) (walk : Walk) : Type 0 where
  pub after_post : List ℤ
  pub selected : List ℤ
  pub pass : PassStateView
  pub has : HasPages files bytes parts from after_post (read_in pass selected walk)
  pub pass_state : pass_state_of walk ≡ bare pass
  pub read : FontsAreRead walk.fonts selected
  pub sound : AreSound (file_widths files) (known_of walk) walk.fonts

-- Why the reading does not end at the place of post, or the part after post is wrong, or memory is refused for a definition there.
abbrev pub IsFinishFault : List ℕ → (post after last : ℕ) → PassStateView → PlacesLeft → (known : List Definition) → DviFault → Type 0
IsFinishFault bytes post after last p left known OutOfMemory =
    (pages : List MarkedPage) × PagesHaveEnded p left pages × (new : List Definition)
    × IsClosingFault bytes after (last - 5) known new frames.OutOfMemory
IsFinishFault bytes post after last p left known (Bad bad) =
    IsUnended p left post bad ⊎ (pages : List MarkedPage) × PagesHaveEnded p left pages × (new : List Definition)
    × IsClosingFault bytes after (last - 5) known new (frames.Bad bad)
IsFinishFault bytes post after last p left known fault = ⊥
