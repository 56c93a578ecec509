-- The walk over the pages of a file, as the code does it (own). No clause of a call that other crates use to read a file reaches these definitions,
-- except `IsWalked`: they are about the values of the code.
use Rattle.std.specs.Prelude.{◌≡◌, [], List, ℕ, ℤ}
use Rattle.dvi_ops.specs.Fonts.{WidthsByName}
use Rattle.dvi_ops.specs.Instruction.{Postamble}
use Rattle.dvi_scan.specs.Pass.{PassStateView, Between, Inside}
use Rattle.dvi_scan.specs.Reached.{IsReached, ReadSoFar}
use Rattle.dvi_read.specs.ReadFonts.{AreSound, IsCurrent}
use Rattle.dvi_read.specs.Steps.{FontsAreRead, known_of, places_left, pass_state_of}
use Rattle.dvi_read.specs.declared.check.walk.Walk.{Walk}

-- The state of the pass without the pages that have ended and without the marks of the open one.
abbrev pub bare : PassStateView → PassStateView
bare (Between pages) = Between []
bare (Inside pages counts marks stack s) = Inside [] counts [] stack s

-- What was read of a file, from the state of the pass, the selected fonts and a walk, which has the rest.
abbrev pub read_in : PassStateView → (selected : List ℤ) → Walk → ReadSoFar
read_in pass selected walk = record { pass = pass; known = known_of walk; selected = selected; left = places_left walk }

-- A walk has come to a place: the instructions before it are right, the walk has their fonts and the state of the pass without pages and marks, and
-- each selected font was read.
pub record IsWalked (metrics : WidthsByName) (after_post : List ℤ) (bytes : List ℕ) (postamble : Postamble) (chain : List ℕ) (at : ℕ)
    (walk : Walk) : Type 0 where
  pub selected : List ℤ
  pub pass : PassStateView
  pub reached : IsReached metrics after_post bytes postamble chain at (read_in pass selected walk)
  pub pass_state : pass_state_of walk ≡ bare pass
  pub read : FontsAreRead walk.fonts selected
  pub sound : AreSound metrics (known_of walk) walk.fonts
  pub current : IsCurrent walk.fonts walk.pass_state
