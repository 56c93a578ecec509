-- The widths of lines: the first lines of a paragraph have a width of their own (own; TeX: The Program, part 38, §847 to §850, has more kinds of
-- widths).
use Rattle.std.specs.Prelude.{◌-ℤ◌, ℕ, ℤ, ◌&&◌, nat_lt, int_lt, if◌then◌else◌, IfSome}
use Rattle.node_core.specs.declared.params.Params.{Params}
use Rattle.break_lines.specs.declared.sums.Sums.{Sums}
use Rattle.break_lines.specs.declared.sizes.Alone.{Alone}
use Rattle.break_lines.specs.declared.cost.LineFit.{LineFit}
use Rattle.break_lines.specs.declared.sizes.LineFits.{LineFits}
use Rattle.break_lines.specs.Costs.{line_fit}
use Rattle.break_lines.specs.SmallCosts.{IsSmallLineFit, IsSmallAlone}

-- The width of the line after this number of lines: line i, counted from 1, is one of the first lines if i is at most firstlines.
unfoldable pub line_size : Params → (lines : ℕ) → ℤ
line_size params lines = if nat_lt lines params.first_lines then params.first_size else params.hsize

-- The greatest width of a line: firstsize counts only if there are first lines.
unfoldable pub greatest_size : Params → ℤ
greatest_size params = if nat_lt 0 params.first_lines && int_lt params.hsize params.first_size then params.first_size else params.hsize

-- The width of a line when it shrinks as far as it can, by the sums over its items.
abbrev pub least_width : Sums → ℤ
least_width sums = sums.width -ℤ sums.shrink

-- How a line is set whose items have these sums, as the first line of a paragraph and as a line of width hsize.
unfoldable pub fits_of_sums : Params → Sums → LineFits
fits_of_sums params sums = record { first = line_fit sums (line_size params 0); rest = line_fit sums params.hsize }

-- How it is set after this number of lines.
abbrev pub fit_after : (first_lines lines : ℕ) → LineFits → LineFit
fit_after first_lines lines line = if nat_lt lines first_lines then line.first else line.rest

-- Both parts of a judgement are small.
pub record IsSmallLineFits (line : LineFits) : Type 0 where
  pub first : IsSmallLineFit line.first
  pub rest : IsSmallLineFit line.rest

-- The costs of a line are small, both as a first line and as a later one.
pub record IsSmallCosts (line : Alone) : Type 0 where
  pub first : IfSome line.first IsSmallAlone
  pub rest : IfSome line.rest IsSmallAlone
