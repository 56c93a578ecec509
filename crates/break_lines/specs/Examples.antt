-- Lines whose cost is known (own).
use Rattle.std.specs.Prelude.{ℕ, ℤ, pos, ◌*◌}
use Rattle.break_lines.specs.declared.sums.Sums.{Sums}
use Rattle.break_lines.specs.declared.cost.LineFit.{LineFit}
use Rattle.break_lines.specs.Costs.{line_fit}

-- A number of points, in scaled points.
abbrev pub points : ℕ → ℤ
points n = pos (n * 65536)

-- The sums over items with this width, stretch and stretch of order fil, all in points.
abbrev pub sums_of_points : (width stretch fil : ℕ) → Sums
sums_of_points width stretch fil =
    record { width = points width; stretch = points stretch; fil = points fil; fill = pos 0; filll = pos 0; shrink = pos 0 }

-- A line with these sums, set to 40pt.
abbrev pub line_of_points : (width stretch fil : ℕ) → LineFit
line_of_points width stretch fil = line_fit (sums_of_points width stretch fil) (points 40)
