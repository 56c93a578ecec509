-- The passes over a paragraph, and the chosen list of breaks (TeX: The Program, part 39, §863 and §874; own: the last pass admits each line, the
-- least overhang counts first, and ties are decided).
use Rattle.std.specs.Prelude.{◌≡◌, map, reverse}
use Rattle.node_core.specs.declared.params.Params.{Params}
use Rattle.break_lines.specs.declared.state.BreakState.{BreakState}
use Rattle.break_lines.specs.Problems.{Problem, Path, ends_of, places_of}
use Rattle.break_lines.specs.Chosen.{IsChosen, AdmitsNone}
use Rattle.break_lines.specs.declared.cost.Bound.{Bound}
use Rattle.break_lines.specs.declared.cost.Bound.TheVariants.{Any, AtMost}
use Rattle.break_core.specs.declared.broken.Pass.{Pass}
use Rattle.break_core.specs.declared.broken.Pass.TheVariants.{First, Second, Third}
use Rattle.break_core.specs.declared.broken.Breaks.{Breaks}
use Rattle.break_core.specs.declared.broken.LineEnd.{LineEnd}
use Rattle.break_lines.specs.Legal.{is_forced}
use Rattle.break_lines.specs.Facts.{Facts}
use Rattle.break_lines.specs.Costs.{line_fit, admitted_line}
use Rattle.break_lines.specs.Sizes.{line_size}

-- The lines that a pass admits: in the first pass those up to pretolerance, in the second pass those up to tolerance, and in the last pass all lines.
abbrev pub bound_of : Params → Pass → Bound
bound_of params First = AtMost params.pretolerance
bound_of params Second = AtMost params.tolerance
bound_of params Third = Any

-- A paragraph in a pass: lines are counted up to firstlines, and each line is measured against its own width.
abbrev pub problem_of : Facts → Params → Bound → Problem
problem_of facts params bound =
    record {
      places = facts.places;
      forced = λ place. is_forced (facts.penalty place);
      cut = params.first_lines;
      line = λ before place.
          admitted_line params bound (facts.penalty place) before.class (line_fit (facts.sums before.place place) (line_size params before.lines));
    }

-- A pass comes before another one.
abbrev pub IsBefore : Pass → Pass → Type 0
IsBefore First Second = Unit {0}
IsBefore First Third = Unit {0}
IsBefore Second Third = Unit {0}
IsBefore pass other = ⊥

-- The end of a line, by its position in the list.
abbrev pub line_end_at : Facts → BreakState → LineEnd
line_end_at facts s = record { place = facts.position s.place; class = s.class }

-- The breaks are the chosen list of the first pass that admits one.
pub record IsBroken (facts : Facts) (params : Params) (breaks : Breaks) : Type 0 where
  pub path : Path
  -- Its lines are admitted by the pass of the breaks, and no list of admitted lines is better.
  pub chosen : IsChosen (problem_of facts params (bound_of params breaks.pass)) (places_of (ends_of path)) path
  -- No earlier pass admits a list.
  pub earlier : (pass : Pass) → IsBefore pass breaks.pass → AdmitsNone (problem_of facts params (bound_of params pass))
  -- The places and classes are those of its lines, in order.
  pub lines : breaks.lines.items ≡ map (line_end_at facts) (reverse (ends_of path))
  -- The costs are those of its lines.
  pub overhang : breaks.overhang ≡ path.overhang
  pub demerits : breaks.demerits ≡ path.demerits
