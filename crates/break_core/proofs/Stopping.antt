-- When trying lines from a group stops, and which lines are left out.
use Rattle.std.proofs.Common.{◌≡◌, ◌∙◌, ℕ, ◌+◌, ◌<◌, ◌≤◌, Bool, true, false, cond, ◌||◌, refl, ap, sym, arith, Option, None, List}
use Rattle.std.specs.Prelude.{ℤ}
use Rattle.std.proofs.Math.Logic.{◌⊎◌, inl, inr}
use Rattle.std.proofs.lemmas.Bool.{cases_Bool, cond-true, cond-false}
use Rattle.node_core.specs.declared.params.Params.{Params}
use Rattle.break_lines.specs.declared.group.ActiveGroup.{ActiveGroup}
use Rattle.break_lines.specs.declared.state.BreakState.{BreakState}
use Rattle.break_lines.specs.Tables.{Entry}
use Rattle.break_lines.specs.Private.Live.{IsGroup}
use Rattle.break_lines.specs.declared.sums.Sums.{Sums}
use Rattle.break_lines.specs.declared.cost.Bound.{Bound}
use Rattle.break_lines.specs.declared.sizes.LineFits.{LineFits}
use Rattle.break_lines.specs.Costs.{admitted_line}
use Rattle.break_lines.specs.Sizes.{least_width, fits_of_sums, fit_after}
use Rattle.break_lines.specs.Legal.{is_forced}
use Rattle.break_lines.specs.Facts.{Facts}
use Rattle.break_lines.specs.Steady.{IsSteady}
use Rattle.break_core.specs.declared.pass_rules.StopRule.{StopRule}
use Rattle.break_core.specs.declared.pass_rules.StopRule.TheVariants.{Never, Overfull, Long}
use Rattle.break_core.specs.Passes.{problem_of}
use Rattle.break_core.specs.Private.Filling.{IsOf, IsOffering, IsOfferingUnless}
use Rattle.break_core.specs.Trials.{is_overfull}
use Rattle.break_core.specs.Private.LeftOut.{is_long, over_before, is_more, kept_over}
use Rattle.break_core.specs.Private.Active.{stops_after, leaves_out, stops_at, problem_leaving_out, MayStop, IsSilentWithin}
use Rattle.break_core.proofs.Active.{row_same}
use Rattle.break_core.proofs.Filled.{fit_is}
use Rattle.break_core.proofs.Overfull.{no_offer, overfull_silent, overfull_stays}
use Rattle.break_core.proofs.Detours.{first_is, long_means}
use Rattle.break_core.proofs.Long.{long_is, over_next, long_stays}

-- Whether a line that was tried is long, and the stored value after it.
pub long_found :
    (f h : Facts) (params : Params) (a b : ℕ) (sums : Sums) (over : Option ℤ) (width : ℤ) (long : Bool)
    → long ≡ is_more over width → over ≡ over_before f params a b → width ≡ least_width sums → sums ≡ h.sums a b → h ≡ f → long ≡ is_long f params a b
long_found f h params a b sums over width long is is_over is_width is_sums same =
    is ∙ ap (λ o. is_more o width) is_over
    ∙ ap (is_more (over_before f params a b)) (is_width ∙ ap least_width (is_sums ∙ ap (λ x. x.sums a b) same))
    ∙ sym (long_is f params a b)

pub over_found :
    (f h : Facts) (params : Params) (a b : ℕ) (sums : Sums) (over kept : Option ℤ) (width : ℤ) (overfull : Bool)
    → a < b → kept ≡ kept_over over overfull width → over ≡ over_before f params a b → overfull ≡ is_overfull f params a b
    → width ≡ least_width sums → sums ≡ h.sums a b → h ≡ f → kept ≡ over_before f params a (b + 1)
over_found f h params a b sums over kept width overfull later is is_over is_overfull_line is_width is_sums same =
    is ∙ ap (λ o. kept_over o overfull width) is_over ∙ ap (λ t. kept_over (over_before f params a b) t width) is_overfull_line
    ∙ ap (kept_over (over_before f params a b) (is_overfull f params a b)) (is_width ∙ ap least_width (is_sums ∙ ap (λ x. x.sums a b) same))
    ∙ sym (over_next f params a b later)

-- The line of the pass without those that are left out.
pub line_leaving_out :
    (f h : Facts) (params : Params) (bound : Bound) (rule : StopRule) (g : ActiveGroup) (place : ℕ) (penalty : ℤ) (sums : Sums) (line : LineFits) (left_out long : Bool)
    → penalty ≡ f.penalty place → line ≡ fits_of_sums params sums → sums ≡ h.sums g.place place → h ≡ f
    → left_out ≡ stops_after rule false long → long ≡ is_long f params g.place place
    → (s : BreakState) → s.place ≡ g.place
    → (problem_leaving_out f params bound rule).line s place
    ≡ cond left_out None (admitted_line params bound penalty s.class (fit_after params.first_lines s.lines line))
line_leaving_out f h params bound rule g place penalty sums line left_out long is_penalty is_line is_sums same is_left_out is_long_line s at =
    ap (λ t. cond (stops_after rule false t) None ((problem_of f params bound).line s place)) (ap (λ a. is_long f params a place) at ∙ sym is_long_line)
    ∙ ap (λ t. cond t None ((problem_of f params bound).line s place)) (sym is_left_out)
    ∙ ap (cond left_out None) (fit_is f h params bound g place penalty sums line is_penalty is_line is_sums same s at)

-- If the line is left out, the row does not change; otherwise the line is offered.
pub row_left_out :
    (left_out : Bool) (table : List Entry) (params : Params) (bound : Bound) (group : ActiveGroup) (place : ℕ) (penalty : ℤ) (line : LineFits) (row : List (Option Entry))
    → left_out ≡ true → group.start ≤ group.end → IsOf params.first_lines table group
    → IsOfferingUnless left_out table params bound group place penalty line row row
row_left_out left_out table params bound group place penalty line row is rises of p cut late line_fit before =
    row_same p table place group.start group.end row rises (λ k e low high at. no_offer p e k place (none e (of k e low high at).0)) before
  where
    none : (e : Entry) → e.end.place ≡ group.place → p.line e.end place ≡ None
    none e at = line_fit e.end at ∙ cond-true left_out None (admitted_line params bound penalty e.end.class (fit_after params.first_lines e.end.lines line)) is

pub row_unless_left_out :
    (left_out : Bool) (table : List Entry) (params : Params) (bound : Bound) (group : ActiveGroup) (place : ℕ) (penalty : ℤ) (line : LineFits) (old new : List (Option Entry))
    → left_out ≡ false → IsOffering table params bound group place penalty line group.start group.end old new
    → IsOfferingUnless left_out table params bound group place penalty line old new
row_unless_left_out left_out table params bound group place penalty line old new is offering p cut late line_fit before =
    offering p cut late
    (λ s at. line_fit s at ∙ cond-false left_out None (admitted_line params bound penalty s.class (fit_after params.first_lines s.lines line)) is) before

-- For a line that is left out, it is enough to know that.
pub stopped_is : (rule : StopRule) (overfull long : Bool) → stops_after rule overfull (leaves_out rule long) ≡ stops_after rule overfull long
stopped_is Never overfull long = refl
stopped_is Overfull overfull long = refl
stopped_is Long overfull long = refl

-- Trying goes on if the place is not forced and trying has not stopped.
pub goes_on :
    (f : Facts) (params : Params) (rule : StopRule) (a b : ℕ) (o long stopped : Bool)
    → stopped ≡ stops_after rule o long → o ≡ is_overfull f params a b → long ≡ is_long f params a b → is_forced (f.penalty b) ≡ false → stopped ≡ false
    → stops_at f params rule a b ≡ false
goes_on f params rule a b o long stopped is same_over same_long free not_stopped =
    ap (λ t. t || stops_after rule (is_overfull f params a b) (is_long f params a b)) free ∙ ap (λ t. stops_after rule t (is_long f params a b)) (sym same_over)
    ∙ ap (stops_after rule o) (sym same_long) ∙ sym is ∙ not_stopped

-- If long lines are left out, no entry of a group offers anything after one.
long_silent :
    (facts : Facts) (params : Params) (bound : Bound) (table : List Entry) (b : ℕ) (g : ActiveGroup)
    → IsSteady facts → IsGroup (problem_leaving_out facts params bound Long) table b g → is_long facts params g.place b ≡ true
    → IsSilentWithin (problem_leaving_out facts params bound Long) table (b + 1) g.start g.end
long_silent facts params bound table b g steady group is k e low high at l after within =
    let place = group.entries k e low high at in
    let late : is_long facts params e.end.place l ≡ true =
    ap (λ a. is_long facts params a l) place ∙ long_stays facts params g.place b l steady group.earlier (omega arith) within is in
    no_offer (problem_leaving_out facts params bound Long) e k l (cond-true (is_long facts params e.end.place l) None ((problem_of facts params bound).line e.end l) late)

-- If trying has stopped, the entries of the group are silent.
pub stopped_silent :
    (f : Facts) (params : Params) (bound : Bound) (table : List Entry) (b : ℕ) (g : ActiveGroup) (rule : StopRule) (o long stopped : Bool)
    → stopped ≡ stops_after rule o long → o ≡ is_overfull f params g.place b → long ≡ is_long f params g.place b → MayStop rule f params bound
    → IsGroup (problem_leaving_out f params bound rule) table b g → stopped ≡ true → IsSilentWithin (problem_leaving_out f params bound rule) table (b + 1) g.start g.end
stopped_silent f params bound table b g Never o long stopped is same_over same_long may group yes_stopped =
    let no : false ≡ true = sym is ∙ yes_stopped in
    absurd (cc)
stopped_silent f params bound table b g Overfull o long stopped is same_over same_long may group yes_stopped =
    overfull_silent f params bound table b g may group (sym same_over ∙ sym is ∙ yes_stopped)
stopped_silent f params bound table b g Long o long stopped is same_over same_long may group yes_stopped =
    long_silent f params bound table b g may.0.steady group (sym same_long ∙ sym is ∙ yes_stopped)

-- In a steady paragraph a long line is overfull: it is wider than an earlier line that is overfull.
long_overfull :
    (f : Facts) (params : Params) (a b : ℕ) → IsSteady f → b ≤ f.places → is_long f params a b ≡ true → is_overfull f params a b ≡ true
long_overfull f params a b steady within is =
    let means = long_means f params a b is in
    let first = first_is f params a b means.0 means.1 in
    overfull_stays f params a means.0 b steady first.later (omega (arith, first.before)) within first.over

-- Only an overfull line is left out.
pub none_left_out :
    (f : Facts) (params : Params) (bound : Bound) (rule : StopRule) (a b : ℕ)
    → MayStop rule f params bound → b ≤ f.places → is_overfull f params a b ≡ false → leaves_out rule (is_long f params a b) ≡ false
none_left_out f params bound Never a b may within fits = refl
none_left_out f params bound Overfull a b may within fits = refl
none_left_out f params bound Long a b may within fits = cases (cases_Bool (is_long f params a b))
  where
    cases : (is_long f params a b ≡ true) ⊎ (is_long f params a b ≡ false) → is_long f params a b ≡ false
    cases (inr is) = is
    cases (inl is) =
        let over = long_overfull f params a b may.0.steady within is in
        absurd (cc)

-- Trying does not stop after a line that is neither overfull nor long.
pub none_stops : (rule : StopRule) (overfull long : Bool) → overfull ≡ false → long ≡ false → false ≡ stops_after rule overfull long
none_stops Never overfull long fits short = refl
none_stops Overfull overfull long fits short = sym fits
none_stops Long overfull long fits short = sym short
