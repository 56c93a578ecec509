-- The trials of several passes together.
use Rattle.std.proofs.Common.{◌≡◌, ◌∙◌, ℕ, ◌+◌, ◌≤◌, Bool, true, ◌||◌, List, [], ◌∷◌, ◌++◌, ap, subst, arith, Result, Ok, Err}
use Rattle.std.specs.Prelude.{OnErr}
use Rattle.std.proofs.Math.Logic.{inl, inr}
use Rattle.std.proofs.Math.Bool.{or-true}
use Rattle.node_core.specs.declared.params.Params.{Params}
use Rattle.break_lines.specs.Problems.{max_places}
use Rattle.break_core.specs.declared.broken.Pass.{Pass}
use Rattle.break_core.specs.declared.broken.Pass.TheVariants.{First, Second, Third}
use Rattle.break_lines.specs.Legal.{is_forced}
use Rattle.break_lines.specs.Facts.{Facts}
use Rattle.break_lines.specs.Steady.{IsSteady}
use Rattle.break_lines.specs.Chosen.{AdmitsNone}
use Rattle.break_core.specs.Passes.{problem_of, bound_of}
use Rattle.break_core.specs.Private.Filling.{IsGrown}
use Rattle.break_core.specs.declared.pass_rules.StopRule.{StopRule}
use Rattle.break_core.specs.declared.pass_rules.StopRule.TheVariants.{Overfull}
use Rattle.break_core.specs.Private.LeftOut.{is_long}
use Rattle.break_core.specs.Trials.{is_overfull, is_bounded, passes_run, places_up_to, AreBounded, AreBoundedByPasses, HasNoTrials}
use Rattle.break_core.specs.Private.Active.{stops_after, stops_at, IsCounted, IsWithin, AreAdded, AreAddedByPasses}
use Rattle.break_core.proofs.Admitting.{before_first, before_second, before_third}

-- The counted trials are within the bound of the definition of stops.
pub within_pass :
    (facts : Facts) (params : Params) (pass : Pass) (rule : StopRule) (before now : ℕ → ℕ)
    → (IsSteady facts → is_bounded pass ≡ true → rule ≡ Overfull)
    → IsCounted (stops_at facts params rule) facts.places before now → IsWithin facts params pass before now
within_pass facts params pass rule before now short counted a l (inl last) = omega (arith, counted.grown a, last)
within_pass facts params pass rule before now short counted a l (inr (earlier, within, inl forced)) =
    counted.stopped a l earlier within (ap (λ t. t || stops_after rule (is_overfull facts params a l) (is_long facts params a l)) forced)
within_pass facts params pass rule before now short counted a l (inr (earlier, within, inr over)) =
    let test : stops_after rule (is_overfull facts params a l) (is_long facts params a l) ≡ true =
    ap (λ e. stops_after e (is_overfull facts params a l) (is_long facts params a l)) (short over.0 over.1) ∙ over.2 in
    counted.stopped a l earlier within (ap (λ t. is_forced (facts.penalty l) || t) test ∙ or-true (is_forced (facts.penalty l)))

pub grown_pass :
    (stop : ℕ → ℕ → Bool) (places : ℕ) (before now : ℕ → ℕ) → places ≤ max_places → IsCounted stop places before now → IsGrown max_places before now
grown_pass stop places before now few counted a = omega (arith, counted.grown a, few)

-- No pass was run.
pub added_none : (facts : Facts) (params : Params) (before : ℕ → ℕ) → AreAdded facts params [] before before
added_none facts params before a stop stops_at = omega arith

joined : (a : ℕ) (stop : Pass → ℕ) (ps qs : List Pass) → places_up_to a stop (ps ++ qs) ≡ places_up_to a stop ps + places_up_to a stop qs
joined a stop [] qs = omega arith
joined a stop (pass ∷ ps) qs = omega (arith, joined a stop ps qs)

-- One more pass was run.
pub added_more :
    (facts : Facts) (params : Params) (passes : List Pass) (pass : Pass) (before middle now : ℕ → ℕ)
    → AreAdded facts params passes before middle → IsWithin facts params pass middle now → AreAdded facts params (passes ++ pass ∷ []) before now
added_more facts params passes pass before middle now is within a stop stops_at =
    omega (arith, is a stop stops_at, within a (stop pass) (stops_at pass), joined a stop passes (pass ∷ []))

-- If there were no trials before, the added trials are all trials.
pub all_added :
    (facts : Facts) (params : Params) (passes : List Pass) (before now : ℕ → ℕ)
    → HasNoTrials before → AreAdded facts params passes before now → AreBounded facts params passes now
all_added facts params passes before now none is a stop stops_at = omega (arith, none a, is a stop stops_at)

-- The second pass was run after the first one, and the last one after the second.
pub second_added :
    (f h : Facts) (params : Params) (before middle now : ℕ → ℕ)
    → h ≡ f → AreAdded f params (passes_run params First) before middle → IsWithin h params Second middle now
    → AreAdded f params (passes_run params Second) before now
second_added f h params before middle now same is within =
    added_more f params (passes_run params First) Second before middle now is (subst (λ x. IsWithin x params Second middle now) same within)

pub third_added :
    (f h : Facts) (params : Params) (before middle now : ℕ → ℕ)
    → h ≡ f → AreAdded f params (passes_run params Second) before middle → IsWithin h params Third middle now
    → AreAdded f params (passes_run params Third) before now
third_added f h params before middle now same is within =
    added_more f params (passes_run params Second) Third before middle now is (subst (λ x. IsWithin x params Third middle now) same within)

-- What holds anyway holds at an error.
pub on_error : {A B : Type 0} (P : Type 0) (result : Result A B) → P → OnErr result P
on_error P (Ok value) is = tt
on_error P (Err error) is = is

-- A growth was refused in the first pass, in the second one, or in the last one.
pub first_refused :
    (f : Facts) (params : Params) (before now : ℕ → ℕ) → AreAdded f params (passes_run params First) before now → AreAddedByPasses f params before now
first_refused f params before now is = record { last = First; earlier = before_first f params; added = is }

pub second_refused :
    (f : Facts) (params : Params) (before now : ℕ → ℕ)
    → AdmitsNone (problem_of f params (bound_of params First)) → AreAdded f params (passes_run params Second) before now
    → AreAddedByPasses f params before now
second_refused f params before now first is = record { last = Second; earlier = before_second f params first; added = is }

pub third_refused :
    (f : Facts) (params : Params) (before now : ℕ → ℕ)
    → AdmitsNone (problem_of f params (bound_of params First)) → AdmitsNone (problem_of f params (bound_of params Second))
    → AreAdded f params (passes_run params Third) before now → AreAddedByPasses f params before now
third_refused f params before now first second is = record { last = Third; earlier = before_third f params first second; added = is }

-- If there were no trials before, the trials added by these passes are all trials.
pub all_by_passes :
    (facts : Facts) (params : Params) (before now : ℕ → ℕ) → HasNoTrials before → AreAddedByPasses facts params before now → AreBoundedByPasses facts params now
all_by_passes facts params before now none is =
    record { last = is.last; earlier = is.earlier; bounded = all_added facts params (passes_run params is.last) before now none is.added }
