-- The cost of a line without the demerits for the class of the line before it.
use Rattle.std.proofs.Common.{◌≡◌, ◌∙◌, ℕ, ◌<◌, Bool, true, false, cond, refl, ap, sym, arith, Option, Some, None}
use Rattle.std.specs.Prelude.{ℤ, ◌+ℤ◌, nat_lt, if◌then◌else◌}
use Rattle.std.proofs.Math.Logic.{◌⊎◌, inl, inr}
use Rattle.std.proofs.lemmas.Bool.{cases_Bool, cond-true, cond-false}
use Rattle.node_core.specs.declared.params.Params.{Params}
use Rattle.break_lines.specs.declared.state.Fitness.{Fitness}
use Rattle.break_lines.specs.declared.state.LineCost.{LineCost}
use Rattle.break_lines.specs.declared.cost.LineFit.{LineFit}
use Rattle.break_lines.specs.declared.cost.Bound.{Bound}
use Rattle.break_lines.specs.declared.sizes.LineFits.{LineFits}
use Rattle.break_lines.specs.Costs.{base_demerits, penalty_demerits, demerits_of, admits, admitted_line, line_alone, line_after, after_class}
use Rattle.break_lines.specs.Sizes.{fit_after}

after_some : (params : Params) (before : Fitness) (t : Bool) (line : LineCost) → after_class params before (cond t (Some line) None) ≡ cond t (Some (line_after params before line)) None
unfolding after_class
after_some params before true line = refl
after_some params before false line = refl

pub parts :
    (params : Params) (bound : Bound) (penalty : ℤ) (before : Fitness) (line : LineFit)
    → after_class params before (line_alone params bound penalty line) ≡ admitted_line params bound penalty before line
unfolding line_alone admitted_line demerits_of
parts params bound penalty before line =
    after_some params before (admits bound line)
    (record { class = line.class; overhang = line.overhang; demerits = base_demerits params line.badness +ℤ penalty_demerits penalty })

-- A line that is not admitted is not admitted after any class.
pub after_none : (params : Params) (before : Fitness) (t : Bool) → after_class params before (cond {A = Option LineCost} t None None) ≡ None
unfolding after_class
after_none params before true = refl
after_none params before false = refl

-- The costs that were found once for all numbers of lines give the line after each number of lines.
pub alone_is :
    (params : Params) (bound : Bound) (penalty : ℤ) (line : LineFits) (first rest : Option LineCost) (lines : ℕ) (before : Fitness)
    → first ≡ line_alone params bound penalty (if nat_lt 0 params.first_lines then line.first else line.rest)
    → rest ≡ line_alone params bound penalty line.rest
    → after_class params before (if nat_lt lines params.first_lines then first else rest)
    ≡ admitted_line params bound penalty before (fit_after params.first_lines lines line)
alone_is params bound penalty line first rest lines before is_first is_rest = cases (cases_Bool (nat_lt lines params.first_lines))
  where
    few : nat_lt lines params.first_lines ≡ true → nat_lt 0 params.first_lines ≡ true
    few h = let less : lines < params.first_lines = grind arith in grind arith

    cases :
        (nat_lt lines params.first_lines ≡ true) ⊎ (nat_lt lines params.first_lines ≡ false)
        → after_class params before (if nat_lt lines params.first_lines then first else rest)
        ≡ admitted_line params bound penalty before (fit_after params.first_lines lines line)
    cases (inl is) =
        ap (after_class params before)
        (cond-true (nat_lt lines params.first_lines) first rest is ∙ is_first
        ∙ ap (line_alone params bound penalty) (cond-true (nat_lt 0 params.first_lines) line.first line.rest (few is)))
        ∙ parts params bound penalty before line.first
        ∙ ap (admitted_line params bound penalty before) (sym (cond-true (nat_lt lines params.first_lines) line.first line.rest is))
    cases (inr is) =
        ap (after_class params before) (cond-false (nat_lt lines params.first_lines) first rest is ∙ is_rest)
        ∙ parts params bound penalty before line.rest
        ∙ ap (admitted_line params bound penalty before) (sym (cond-false (nat_lt lines params.first_lines) line.first line.rest is))
