-- Overfull lines of steady paragraphs stay overfull.
use Rattle.std.proofs.Common.{◌≡◌, ◌∙◌, ℕ, zero, suc, ◌+◌, ◌-◌, ◌<◌, ◌≤◌, Bool, true, false, not, cond, ◌&&◌, refl, ap, subst, arith, Option, None, List}
use Rattle.std.specs.Prelude.{ℤ, pos, int_le, nat_le}
use Rattle.std.proofs.lemmas.Int.{ints}
use Rattle.node_core.specs.declared.params.Params.{Params}
use Rattle.break_lines.specs.declared.state.Fitness.{Fitness}
use Rattle.break_lines.specs.declared.state.LineCost.{LineCost}
use Rattle.break_lines.specs.declared.group.ActiveGroup.{ActiveGroup}
use Rattle.break_lines.specs.Problems.{Problem}
use Rattle.break_lines.specs.Ways.{last_forced_below}
use Rattle.break_lines.specs.Tables.{Entry, offer_of, offer}
use Rattle.break_lines.specs.Private.Live.{IsGroup}
use Rattle.break_lines.specs.declared.sums.Sums.{Sums}
use Rattle.break_lines.specs.declared.cost.LineFit.{LineFit}
use Rattle.break_lines.specs.declared.cost.Bound.{Bound}
use Rattle.break_lines.specs.declared.cost.Bound.TheVariants.{Any, AtMost}
use Rattle.break_lines.specs.declared.sizes.LineFits.{LineFits}
use Rattle.break_lines.specs.Costs.{line_fit, admits, admitted_line}
use Rattle.break_lines.specs.Sizes.{line_size, greatest_size, fits_of_sums}
use Rattle.break_lines.proofs.Widths.{overfull_means, overfull_is, overfull_each, both_overfull}
use Rattle.break_lines.specs.Facts.{Facts}
use Rattle.break_core.specs.Passes.{problem_of}
use Rattle.break_lines.specs.Steady.{IsNoNarrower, IsSteady}
use Rattle.break_core.specs.Trials.{is_overfull}
use Rattle.break_core.specs.Private.Active.{is_limit, MayStopOverfull, IsSilentWithin}

-- A line that is at least as wide as an overfull one is overfull.
overfull_more : (s t : Sums) (size : ℤ) → IsNoNarrower t s → (line_fit s size).overfull ≡ true → (line_fit t size).overfull ≡ true
overfull_more s t size more is =
    let m = overfull_means s size is in
    overfull_is t size (omega (arith, ints, m.0, more.width)) (omega (arith, ints, m.1, more.shrunk))

overfull_by :
    (facts : Facts) (params : Params) (a b n : ℕ) → IsSteady facts → a < b → b + n ≤ facts.places
    → is_overfull facts params a b ≡ true → is_overfull facts params a (b + n) ≡ true
overfull_by facts params a b zero steady earlier within is =
    let same : b ≡ b + 0 = omega arith in
    subst (λ l. is_overfull facts params a l ≡ true) same is
overfull_by facts params a b (suc n) steady earlier within is =
    let before = overfull_by facts params a b n steady earlier (omega arith) is in
    let same : b + n + 1 ≡ b + suc n = omega arith in
    subst (λ l. is_overfull facts params a l ≡ true) same
    (overfull_more (facts.sums a (b + n)) (facts.sums a (b + n + 1)) (greatest_size params) (steady a (b + n) (omega arith) (omega arith)) before)

-- If the line to a place is overfull, so are those to later places.
pub overfull_stays :
    (facts : Facts) (params : Params) (a b l : ℕ) → IsSteady facts → a < b → b ≤ l → l ≤ facts.places
    → is_overfull facts params a b ≡ true → is_overfull facts params a l ≡ true
overfull_stays facts params a b l steady earlier after within is =
    let same : b + (l - b) ≡ l = omega arith in
    subst (λ k. is_overfull facts params a k ≡ true) same (overfull_by facts params a b (l - b) steady earlier (omega arith) is)

-- A bound admits no overfull line.
overfull_none :
    (params : Params) (bound : Bound) (penalty : ℤ) (before : Fitness) (line : LineFit)
    → is_limit bound ≡ true → line.overfull ≡ true → admitted_line params bound penalty before line ≡ None
unfolding admitted_line admits
overfull_none params Any penalty before line limit is = absurd (cc)
overfull_none params (AtMost most) penalty before line limit is = refused line.overfull (int_le (pos line.badness) most) _ is
  where
    refused : (o b : Bool) (x : Option LineCost) → o ≡ true → cond {A = Option LineCost} (not o && b) x None ≡ None
    refused true b x h = refl
    refused false b x h = absurd (cc)

pub no_offer : (p : Problem) (e : Entry) (k l : ℕ) → p.line e.end l ≡ None → offer p e k l ≡ None
no_offer p e k l none = cases (nat_le (last_forced_below p l) e.end.place) _ (ap (offer_of p.cut e k l) none)
  where
    cases : (t : Bool) (x : Option Entry) → x ≡ None → cond t x None ≡ None
    cases true x is = is
    cases false x is = refl

-- After an overfull line no entry of its group offers anything.
pub overfull_silent :
    (facts : Facts) (params : Params) (bound : Bound) (table : List Entry) (b : ℕ) (g : ActiveGroup)
    → MayStopOverfull facts bound → IsGroup (problem_of facts params bound) table b g → is_overfull facts params g.place b ≡ true
    → IsSilentWithin (problem_of facts params bound) table (b + 1) g.start g.end
overfull_silent facts params bound table b g may group is k e low high at l after within =
    let place = group.entries k e low high at in
    let late : is_overfull facts params e.end.place l ≡ true =
    ap (λ a. is_overfull facts params a l) place ∙ overfull_stays facts params g.place b l may.0 group.earlier (omega arith) within is in
    no_offer (problem_of facts params bound) e k l
    (overfull_none params bound (facts.penalty l) e.end.class (line_fit (facts.sums e.end.place l) (line_size params e.end.lines)) may.1
    (overfull_each params (facts.sums e.end.place l) e.end.lines late))

-- A judged line is overfull exactly when the line of the paragraph is.
pub overfull_of :
    (f h : Facts) (params : Params) (a b : ℕ) (sums : Sums) (line : LineFits)
    → line ≡ fits_of_sums params sums → sums ≡ h.sums a b → h ≡ f → (line.first.overfull && line.rest.overfull) ≡ is_overfull f params a b
overfull_of f h params a b sums line is_line is_sums same =
    ap (λ j. j.first.overfull && j.rest.overfull) is_line ∙ both_overfull params sums
    ∙ ap (λ s. (line_fit s (greatest_size params)).overfull) (is_sums ∙ ap (λ x. x.sums a b) same)

pub both_true : (x y : Bool) → (x && y) ≡ true → (x ≡ true) × (y ≡ true)
both_true true y is = (refl, is)
both_true false y is = absurd (cc)
