-- The numbers of lines are small (own).
use Rattle.std.specs.Prelude.{◌≤◌}
use Rattle.scaled_core.specs.Dimensions.{Within}
use Rattle.break_lines.specs.Tables.{max_overhang}
use Rattle.break_lines.specs.declared.state.LineCost.{LineCost}
use Rattle.break_lines.specs.declared.cost.LineFit.{LineFit}
pub use Rattle.break_lines.specs.LineItems.{IsSmallSums}

-- The badness and the overhang of a line are small.
pub record IsSmallLineFit (line : LineFit) : Type 0 where
  pub badness : line.badness ≤ 10000
  pub overhang : Within max_overhang line.overhang

-- The costs without the demerits for the class of the line before are so small that those of the line are small too.
pub record IsSmallAlone (line : LineCost) : Type 0 where
  pub overhang : Within max_overhang line.overhang
  pub demerits : Within 200000000 line.demerits
