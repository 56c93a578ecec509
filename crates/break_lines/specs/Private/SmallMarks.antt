-- The numbers of marks are small (own).
use Rattle.std.specs.Prelude.{◌≡◌, ◌^◌, ◌*◌, ℕ, List, slice_get, Some}
use Rattle.node_core.specs.Nodes.{max_nodes}
use Rattle.scaled_core.specs.Dimensions.{Within}
use Rattle.break_lines.specs.declared.sums.Sums.{Sums}
use Rattle.break_lines.specs.declared.mark.MeasuredBreak.{MeasuredBreak}
pub use Rattle.break_lines.specs.LineItems.{IsSmallSums}

-- Sums over n items are small.
pub record IsPrefix (n : ℕ) (sums : Sums) : Type 0 where
  pub width : Within (2 ^ 31 * n) sums.width
  pub stretch : Within (2 ^ 30 * n) sums.stretch
  pub fil : Within (2 ^ 30 * n) sums.fil
  pub fill : Within (2 ^ 30 * n) sums.fill
  pub filll : Within (2 ^ 30 * n) sums.filll
  pub shrink : Within (2 ^ 30 * n) sums.shrink

-- The sums of a mark are over at most as many items as a list has.
pub record IsSmallMark (mark : MeasuredBreak) : Type 0 where
  pub from_position : IsPrefix max_nodes mark.from_position
  pub from_begin : IsPrefix max_nodes mark.from_begin

-- The same holds for each mark.
abbrev pub AreSmallMarks : List MeasuredBreak → Type 0
AreSmallMarks marks = (k : ℕ) (mark : MeasuredBreak) → slice_get marks k ≡ Some mark → IsSmallMark mark
