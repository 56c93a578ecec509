-- The entries and the lines of a group.
use Rattle.std.proofs.Common.{◌≡◌, ◌∙◌, ℕ, ◌≤◌, cond, List, Option, None, ap, sym}
use Rattle.std.specs.Prelude.{ℤ, nat_lt, if◌then◌else◌}
use Rattle.break_lines.specs.declared.group.ActiveGroup.{ActiveGroup}
use Rattle.break_lines.specs.Problems.{Problem}
use Rattle.break_lines.specs.Tables.{Entry, IsTable}
use Rattle.break_lines.specs.Private.Live.{IsGroup}
use Rattle.node_core.specs.declared.params.Params.{Params}
use Rattle.break_lines.specs.declared.sums.Sums.{Sums}
use Rattle.break_lines.specs.declared.sizes.LineFits.{LineFits}
use Rattle.break_lines.specs.declared.cost.Bound.{Bound}
use Rattle.break_lines.specs.declared.state.LineCost.{LineCost}
use Rattle.break_lines.specs.Costs.{line_fit, admitted_line, line_alone, after_class}
use Rattle.break_lines.proofs.Parts.{after_none, alone_is}
use Rattle.break_lines.specs.Sizes.{line_size, fits_of_sums, fit_after}
use Rattle.break_lines.proofs.Widths.{after_is}
use Rattle.break_lines.specs.Facts.{Facts}
use Rattle.break_core.specs.Passes.{problem_of}
use Rattle.break_core.specs.Private.Filling.{IsOf, IsFitOf, IsOffering}
use Rattle.break_core.proofs.Overfull.{no_offer}
use Rattle.break_core.proofs.Active.{row_same}

-- The entries of a live group have its place.
pub group_of : (p : Problem) (table : List Entry) (b : ℕ) (g : ActiveGroup) → IsTable p b table → IsGroup p table b g → IsOf p.cut table g
group_of p table b g is group k e low high at = (group.entries k e low high at, (is.below k e at).1)

-- A line that was judged by its sums is the line of the problem.
pub fit_is :
    (f h : Facts) (params : Params) (bound : Bound) (g : ActiveGroup) (place : ℕ) (penalty : ℤ) (sums : Sums) (line : LineFits)
    → penalty ≡ f.penalty place → line ≡ fits_of_sums params sums → sums ≡ h.sums g.place place → h ≡ f
    → IsFitOf (problem_of f params bound) params bound g place penalty line
fit_is f h params bound g place penalty sums line is_penalty is_line is_sums same s at =
    let all : sums ≡ f.sums s.place place = is_sums ∙ ap (λ x. x.sums g.place place) same ∙ ap (λ n. f.sums n place) (sym at) in
    let line_is : fit_after params.first_lines s.lines line ≡ line_fit (f.sums s.place place) (line_size params s.lines) =
    ap (fit_after params.first_lines s.lines) is_line ∙ after_is params sums s.lines ∙ ap (λ x. line_fit x (line_size params s.lines)) all in
    ap (λ x. admitted_line params bound x s.class (line_fit (f.sums s.place place) (line_size params s.lines))) (sym is_penalty)
    ∙ ap (λ x. admitted_line params bound penalty s.class x) (sym line_is)

-- If a line is admitted after no number of lines, the entries of its group offer nothing.
pub none_offered :
    (table : List Entry) (params : Params) (bound : Bound) (group : ActiveGroup) (place : ℕ) (penalty : ℤ) (line : LineFits) (first rest : Option LineCost)
    (row : List (Option Entry))
    → group.start ≤ group.end → IsOf params.first_lines table group
    → first ≡ line_alone params bound penalty (if nat_lt 0 params.first_lines then line.first else line.rest)
    → rest ≡ line_alone params bound penalty line.rest → first ≡ None → rest ≡ None
    → IsOffering table params bound group place penalty line group.start group.end row row
none_offered table params bound group place penalty line first rest row rises of is_first is_rest no_first no_rest p cut late line_fit before =
    row_same p table place group.start group.end row rises (λ k e low high at. no_offer p e k place (no_line e (of k e low high at).0)) before
  where
    no_line : (e : Entry) → e.end.place ≡ group.place → p.line e.end place ≡ None
    no_line e at =
        let t = nat_lt e.end.lines params.first_lines in
        line_fit e.end at
        ∙ sym (alone_is params bound penalty line first rest e.end.lines e.end.class is_first is_rest)
        ∙ ap (λ x. after_class params e.end.class (cond t x rest)) no_first
        ∙ ap (λ x. after_class params e.end.class (cond t None x)) no_rest
        ∙ after_none params e.end.class t
