-- Lines that are left out of the last pass, and the values that are stored with each group for this (own).
use Rattle.std.specs.Prelude.{◌<◌, ◌<ℤ◌, ◌≤ℤ◌, ℕ, zero, suc, ℤ, pos, Bool, false, ◌&&◌, nat_lt, int_lt, Option, Some, None, if◌then◌else◌}
use Rattle.std.specs.Option.{option_map}
use Rattle.node_core.specs.declared.params.Params.{Params}
use Rattle.break_lines.specs.Problems.{Problem}
use Rattle.break_lines.specs.Private.Parts.{problem_without}
use Rattle.break_lines.specs.declared.cost.Bound.TheVariants.{Any}
use Rattle.break_lines.specs.Sizes.{line_size, least_width}
use Rattle.break_lines.specs.Facts.{Facts}
use Rattle.break_lines.specs.Steady.{IsSteady}
use Rattle.break_lines.specs.Divided.{IsDivided}
use Rattle.break_core.specs.Passes.{problem_of}
use Rattle.break_core.specs.Trials.{is_overfull}

-- What is kept of the first overfull line, its place or its width, after a line that is overfull or not.
abbrev pub kept_over : {A : Type 0} → Option A → (overfull : Bool) → A → Option A
kept_over None overfull here = if overfull then Some here else None
kept_over (Some first) overfull here = Some first

-- The first place after place a and before place b to which the line from a is overfull, if there is one.
unfoldable pub first_over : Facts → Params → (a b : ℕ) → Option ℕ
first_over facts params a zero = None
first_over facts params a (suc b) = kept_over (first_over facts params a b) (nat_lt a b && is_overfull facts params a b) b

-- The value that is stored for this place: the width of the line to it, shrunk as far as possible.
abbrev pub over_before : Facts → Params → (a b : ℕ) → Option ℤ
over_before facts params a b = option_map (λ place. least_width (facts.sums a place)) (first_over facts params a b)

-- A line of this width, shrunk as far as possible, has more overhang than there.
abbrev pub is_more : Option ℤ → (width : ℤ) → Bool
is_more None width = false
is_more (Some over) width = int_lt over width

-- The line from place a to place b passes over that place, and has more overhang than there.
unfoldable pub is_long : Facts → Params → (a b : ℕ) → Bool
is_long facts params a b = is_more (over_before facts params a b) (least_width (facts.sums a b))

-- From the second line on no line is wider than the next one.
abbrev pub IsWidening : Params → Type 0
IsWidening params = 1 < params.first_lines → params.first_size ≤ℤ params.hsize

-- Long lines can be left out: the paragraph is steady, and a line that is divided gets wider by less than the width of every line from the second one
-- on.
pub record MayLeaveOut (facts : Facts) (params : Params) : Type 0 where
  pub steady : IsSteady facts
  pub widening : IsWidening params
  pub some : pos 0 <ℤ line_size params 1
  pub divided : IsDivided facts (line_size params 1)

-- The last pass without these lines.
abbrev pub problem_without_long : Facts → Params → Problem
problem_without_long facts params = problem_without (problem_of facts params Any) (λ s b. is_long facts params s.place b)
