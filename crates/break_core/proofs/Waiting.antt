-- Groups that wait: the lines from them cost what the loosest line costs, and no line from them is tried.
use Rattle.std.proofs.Common.{◌≡◌, ◌∙◌, ℕ, zero, suc, ◌+◌, ◌-◌, ◌<◌, ◌≤◌, Bool, true, false, ◌||◌, List, [], ◌∷◌, ◌++◌, length, drop, refl, ap, sym, subst, arith, Option, Some, None}
use Rattle.std.specs.Prelude.{ℤ, slice_get}
use Rattle.std.proofs.Math.Logic.{◌⊎◌, inl, inr}
use Rattle.std.proofs.lemmas.Bool.{cases_Bool, cond-false}
use Rattle.std.proofs.lemmas.List.{drop-map, drop-drop, length-drop, map-append}
use Rattle.std.proofs.lemmas.Option.{same_Some, slice_get_within}
use Rattle.node_core.specs.declared.params.Params.{Params}
use Rattle.break_lines.specs.declared.group.ActiveGroup.{ActiveGroup}
use Rattle.break_lines.specs.declared.state.BreakState.{BreakState}
use Rattle.break_lines.specs.declared.state.LineCost.{LineCost}
use Rattle.break_lines.specs.Problems.{Problem}
use Rattle.break_lines.specs.Tables.{Entry, IsTable, IsRow}
use Rattle.break_lines.proofs.Entries.{get_cases}
use Rattle.break_lines.specs.declared.sums.Sums.{Sums}
use Rattle.break_lines.specs.declared.cost.Bound.{Bound}
use Rattle.break_lines.specs.Costs.{line_fit, admitted_line, line_alone, is_loosest, after_class}
use Rattle.break_lines.specs.Private.Costs.{loosest_line}
use Rattle.break_lines.specs.Sizes.{least_width}
use Rattle.break_lines.specs.Legal.{is_forced}
use Rattle.break_lines.specs.Facts.{Facts}
use Rattle.break_lines.specs.Even.{IsEven}
use Rattle.break_lines.proofs.Parts.{parts}
use Rattle.break_lines.proofs.Widths.{size_none, greatest_none}
use Rattle.break_lines.proofs.Looseness.{loosest_part, loosest_fits, loosest_costs}
use Rattle.break_core.specs.declared.pass_rules.StopRule.{StopRule}
use Rattle.break_core.specs.declared.pass_rules.StopRule.TheVariants.{Never, Overfull, Long}
use Rattle.break_core.specs.declared.active_list.Live.{Live}
use Rattle.break_core.specs.Passes.{problem_of}
use Rattle.break_core.specs.Trials.{is_overfull}
use Rattle.break_core.specs.Private.LeftOut.{is_long, over_before}
use Rattle.break_core.specs.Private.Active.{stops_after, leaves_out, stops_at, problem_leaving_out, groups_of, AreOver, HasBest, HaveBest, MayStop, IsActive, AreLoosest, AllWait, CostLoosest, CanWait, CanAllWait, AreRising, IsOfferingEach, IsOfferingWaiting, WasTried}
use Rattle.break_core.proofs.Active.{later_silent, kept_active, row_silent, row_same, IsFront}
use Rattle.break_core.proofs.Detours.{first_is, long_means}
use Rattle.break_core.proofs.Filled.{group_of}
use Rattle.break_core.proofs.Overfull.{no_offer, overfull_stays}
use Rattle.break_core.proofs.Long.{over_next}
use Rattle.break_core.proofs.Lives.{same_over}

-- In an even paragraph the lines from all later places are such lines too.
pub later_loosest :
    (f h : Facts) (params : Params) (bound : Bound) (a b : ℕ) (sums : Sums)
    → IsEven f → a < b → b ≤ f.places → sums ≡ h.sums a b → h ≡ f → params.first_lines ≡ 0 → is_loosest bound (line_fit sums params.hsize) ≡ true
    → AreLoosest f params bound (a + 1) b
later_loosest f h params bound a b sums even earlier within is_sums same none is =
    record {
      uncounted = none;
      loosest = λ m low high.
          loosest_part bound (f.sums a b) (f.sums m b) params.hsize (even.covers a m b (omega (arith, low)) high within) (even.fils m b high within) here;
    }
  where
    here : is_loosest bound (line_fit (f.sums a b) params.hsize) ≡ true
    here = ap (λ s. is_loosest bound (line_fit s params.hsize)) (sym (is_sums ∙ ap (λ x. x.sums a b) same)) ∙ is

-- Such a line is not overfull, and not long; trying lines from its place does not stop.
not_overfull :
    (facts : Facts) (params : Params) (bound : Bound) (a b : ℕ)
    → params.first_lines ≡ 0 → is_loosest bound (line_fit (facts.sums a b) params.hsize) ≡ true → is_overfull facts params a b ≡ false
not_overfull facts params bound a b none is =
    ap (λ x. (line_fit (facts.sums a b) x).overfull) (greatest_none params none) ∙ loosest_fits bound (facts.sums a b) params.hsize is

not_long :
    (facts : Facts) (params : Params) (bound : Bound) (rule : StopRule) (a b : ℕ)
    → MayStop rule facts params bound → a < b → b ≤ facts.places → is_overfull facts params a b ≡ false
    → (stops_after rule false (is_long facts params a b) ≡ false) × (leaves_out rule (is_long facts params a b) ≡ false)
not_long facts params bound Never a b may earlier within fits = (refl, refl)
not_long facts params bound Overfull a b may earlier within fits = (refl, refl)
not_long facts params bound Long a b may earlier within fits = cases (cases_Bool (is_long facts params a b))
  where
    no : is_long facts params a b ≡ true → ⊥
    no long =
        let means = long_means facts params a b long in
        let first = first_is facts params a b means.0 means.1 in
        let stays = overfull_stays facts params a means.0 b may.0.steady first.later (omega (arith, first.before)) within first.over in
        let wrong : true ≡ false = sym stays ∙ fits in
        absurd (cc)

    cases :
        (is_long facts params a b ≡ true) ⊎ (is_long facts params a b ≡ false)
        → (is_long facts params a b ≡ false) × (is_long facts params a b ≡ false)
    cases (inl long) = absurd (no long)
    cases (inr short) = (short, short)

no_stop :
    (facts : Facts) (params : Params) (bound : Bound) (rule : StopRule) (a b : ℕ)
    → MayStop rule facts params bound → a < b → b ≤ facts.places → is_forced (facts.penalty b) ≡ false → is_overfull facts params a b ≡ false
    → stops_at facts params rule a b ≡ false
no_stop facts params bound rule a b may earlier within free fits =
    ap (λ t. t || stops_after rule (is_overfull facts params a b) (is_long facts params a b)) free
    ∙ ap (λ t. stops_after rule t (is_long facts params a b)) fits
    ∙ (not_long facts params bound rule a b may earlier within fits).0

-- The line of the pass costs what the loosest line costs.
waiting_line :
    (facts : Facts) (params : Params) (bound : Bound) (rule : StopRule) (a b : ℕ)
    → MayStop rule facts params bound → a < b → b ≤ facts.places → params.first_lines ≡ 0
    → is_loosest bound (line_fit (facts.sums a b) params.hsize) ≡ true
    → (s : BreakState) → s.place ≡ a
    → (problem_leaving_out facts params bound rule).line s b ≡ admitted_line params bound (facts.penalty b) s.class loosest_line
waiting_line facts params bound rule a b may earlier within none is s at =
    let fits = not_overfull facts params bound a b none is in
    let left_out : leaves_out rule (is_long facts params s.place b) ≡ false =
    ap (λ n. leaves_out rule (is_long facts params n b)) at ∙ (not_long facts params bound rule a b may earlier within fits).1 in
    cond-false (leaves_out rule (is_long facts params s.place b)) None ((problem_of facts params bound).line s b) left_out
    ∙ ap (λ x. admitted_line params bound (facts.penalty b) s.class (line_fit (facts.sums s.place b) x)) (size_none params s.lines none)
    ∙ ap (λ n. admitted_line params bound (facts.penalty b) s.class (line_fit (facts.sums n b) params.hsize)) at
    ∙ loosest_costs params bound (facts.penalty b) s.class (facts.sums a b) params.hsize is

-- If there is a group, it waits.
one_waits :
    (facts : Facts) (params : Params) (bound : Bound) (low b : ℕ) (g : ActiveGroup) (groups : List ActiveGroup)
    → AllWait facts params bound low b (g ∷ groups) → AreLoosest facts params bound low b
one_waits facts params bound low b g groups (inl none) = absurd (cc)
one_waits facts params bound low b g groups (inr wait) = wait

-- From a later place on they wait too.
fewer_wait :
    (facts : Facts) (params : Params) (bound : Bound) (low more b : ℕ) → low ≤ more → AreLoosest facts params bound low b
    → AreLoosest facts params bound more b
fewer_wait facts params bound low more b later wait =
    record { uncounted = wait.uncounted; loosest = λ a less earlier. wait.loosest a (omega (arith, less, later)) earlier }

-- The lines from groups that wait cost what the loosest line costs.
pub costs_waiting :
    (facts : Facts) (params : Params) (bound : Bound) (rule : StopRule) (table : List Entry) (b high at low : ℕ) (groups : List ActiveGroup)
    → MayStop rule facts params bound → b ≤ facts.places → AllWait facts params bound low b groups
    → IsActive (problem_leaving_out facts params bound rule) (stops_at facts params rule) table b high at low groups
    → CostLoosest (problem_leaving_out facts params bound rule) params bound (facts.penalty b) b groups
costs_waiting facts params bound rule table b high at low [] may within wait is k h there = absurd (cc)
costs_waiting facts params bound rule table b high at low (g ∷ groups) may within wait is zero h there =
    let next = is.0 in
    let all = one_waits facts params bound low b g groups wait in
    subst (λ (x : ActiveGroup). (s : BreakState) → s.place ≡ x.place
    → (problem_leaving_out facts params bound rule).line s b ≡ admitted_line params bound (facts.penalty b) s.class loosest_line) (same_Some g h there)
    (waiting_line facts params bound rule g.place b may next.group.earlier within all.uncounted (all.loosest g.place next.later next.group.earlier))
costs_waiting facts params bound rule table b high at low (g ∷ groups) may within wait is (suc k) h there =
    let next = is.0 in
    let all = one_waits facts params bound low b g groups wait in
    costs_waiting facts params bound rule table b high g.end (g.place + 1) groups may within
    (inr (fewer_wait facts params bound low (g.place + 1) b (omega (arith, next.later)) all)) is.1 k h there

-- Groups that wait go on to the next place.
pub active_waiting :
    (facts : Facts) (params : Params) (bound : Bound) (rule : StopRule) (table : List Entry) (b high at low : ℕ) (groups : List ActiveGroup)
    → MayStop rule facts params bound → b ≤ facts.places → is_forced (facts.penalty b) ≡ false → AllWait facts params bound low b groups
    → IsActive (problem_leaving_out facts params bound rule) (stops_at facts params rule) table b high at low groups
    → IsActive (problem_leaving_out facts params bound rule) (stops_at facts params rule) table (b + 1) high at low groups
active_waiting facts params bound rule table b high at low [] may within free wait is =
    record {
      gap = is.gap;
      silent = later_silent (problem_leaving_out facts params bound rule) table b (b + 1) at (length table) (omega arith) is.silent;
      lower = is.lower;
    }
active_waiting facts params bound rule table b high at low (g ∷ groups) may within free wait is =
    let next = is.0 in
    let all = one_waits facts params bound low b g groups wait in
    let fits = not_overfull facts params bound g.place b all.uncounted (all.loosest g.place next.later next.group.earlier) in
    kept_active (problem_leaving_out facts params bound rule) (stops_at facts params rule) table b high at low g groups free
    (no_stop facts params bound rule g.place b may next.group.earlier within free fits) next
    (active_waiting facts params bound rule table b high g.end (g.place + 1) groups may within free
    (inr (fewer_wait facts params bound low (g.place + 1) b (omega (arith, next.later)) all)) is.1)

-- The stored values of groups that wait hold for the next place too.
pub over_waiting :
    (facts : Facts) (params : Params) (bound : Bound) (rule : StopRule) (table : List Entry) (b high at low : ℕ) (lives : List Live)
    → AllWait facts params bound low b (groups_of lives)
    → IsActive (problem_leaving_out facts params bound rule) (stops_at facts params rule) table b high at low (groups_of lives)
    → AreOver facts params b lives → AreOver facts params (b + 1) lives
over_waiting facts params bound rule table b high at low [] wait is over k x there = absurd (cc)
over_waiting facts params bound rule table b high at low (live ∷ lives) wait is over zero x there =
    let next = is.0 in
    let all = one_waits facts params bound low b live.group (groups_of lives) wait in
    let a = live.group.place in
    let fits = not_overfull facts params bound a b all.uncounted (all.loosest a next.later next.group.earlier) in
    let stays : live.over ≡ over_before facts params a (b + 1) =
    over zero live refl
    ∙ sym (over_next facts params a b next.group.earlier
    ∙ same_over (over_before facts params a b) (is_overfull facts params a b) (least_width (facts.sums a b)) fits) in
    subst (λ y. y.over ≡ over_before facts params y.group.place (b + 1)) (same_Some live x there) stays
over_waiting facts params bound rule table b high at low (live ∷ lives) wait is over (suc k) x there =
    let next = is.0 in
    let all = one_waits facts params bound low b live.group (groups_of lives) wait in
    over_waiting facts params bound rule table b high live.group.end (live.group.place + 1) lives
    (inr (fewer_wait facts params bound low (live.group.place + 1) b (omega (arith, next.later)) all)) is.1 (λ j y here. over (suc j) y here) k x there

-- The entries of all groups can be offered.
pub can_wait :
    (p : Problem) (stop : ℕ → ℕ → Bool) (table : List Entry) (b high at low : ℕ) (lives : List Live)
    → IsTable p b table → IsActive p stop table b high at low (groups_of lives) → CanAllWait p.cut table b lives
can_wait p stop table b high at low [] is_table is k x there = absurd (cc)
can_wait p stop table b high at low (live ∷ lives) is_table is zero x there =
    let next = is.0 in
    subst (λ (y : Live). CanWait p.cut table b y.group) (same_Some live x there)
    (record { within = next.group.within; earlier = next.group.earlier; entries = group_of p table b live.group is_table next.group })
can_wait p stop table b high at low (live ∷ lives) is_table is (suc k) x there =
    can_wait p stop table b high live.group.end (live.group.place + 1) lives is_table is.1 k x there

pub can_uncounted :
    (n : ℕ) (table : List Entry) (b : ℕ) (lives : List Live) → (0 < length lives → n ≡ 0) → CanAllWait n table b lives → CanAllWait 0 table b lives
can_uncounted n table b lives none can k live there =
    let some : 0 < length lives = omega (arith, slice_get_within lives k live there) in
    subst (λ m. CanWait m table b live.group) (none some) (can k live there)

-- The places of the groups increase.
pub active_rising :
    (p : Problem) (stop : ℕ → ℕ → Bool) (table : List Entry) (b high at low : ℕ) (lives : List Live)
    → IsActive p stop table b high at low (groups_of lives) → AreRising lives
active_rising p stop table b high at low [] is j k live next after there here = absurd (cc)
active_rising p stop table b high at low (x ∷ []) is zero zero live next after there here = absurd (omega (arith, after))
active_rising p stop table b high at low (x ∷ []) is zero (suc k) live next after there here = absurd (cc)
active_rising p stop table b high at low (x ∷ []) is (suc j) k live next after there here = absurd (cc)
active_rising p stop table b high at low (x ∷ y ∷ lives) is zero zero live next after there here = absurd (omega (arith, after))
active_rising p stop table b high at low (x ∷ y ∷ lives) is zero (suc zero) live next after there here =
    let first = ap (λ (z : Live). z.group.place) (same_Some x live there) in
    let second = ap (λ (z : Live). z.group.place) (same_Some y next here) in
    omega (arith, first, second, is.1.0.later)
active_rising p stop table b high at low (x ∷ y ∷ lives) is zero (suc (suc k)) live next after there here = absurd (omega (arith, after))
active_rising p stop table b high at low (x ∷ y ∷ lives) is (suc j) zero live next after there here = absurd (omega (arith, after))
active_rising p stop table b high at low (x ∷ y ∷ lives) is (suc j) (suc k) live next after there here =
    active_rising p stop table b high x.group.end (x.group.place + 1) (y ∷ lives) is.1 j k live next (omega (arith, after)) there here

-- They are later than all groups before them, and earlier than the place.
pub first_later :
    (p : Problem) (stop : ℕ → ℕ → Bool) (table : List Entry) (b high at low : ℕ) (lives : List Live) (live : Live)
    → IsActive p stop table b high at low (groups_of lives) → slice_get lives 0 ≡ Some live → low ≤ live.group.place
first_later p stop table b high at low [] live is here = absurd (cc)
first_later p stop table b high at low (x ∷ lives) live is here =
    omega (arith, ap (λ (z : Live). z.group.place) (same_Some x live here), is.0.later)

pub low_within :
    (p : Problem) (stop : ℕ → ℕ → Bool) (table : List Entry) (b high at low : ℕ) (groups : List ActiveGroup)
    → IsActive p stop table b high at low groups → low ≤ high
low_within p stop table b high at low [] is = is.lower
low_within p stop table b high at low (g ∷ groups) is =
    omega (arith, is.0.later, low_within p stop table b high g.end (g.place + 1) groups is.1)

-- If the loosest line is not admitted, groups that wait leave a row as it is.
none_waiting :
    (p : Problem) (stop : ℕ → ℕ → Bool) (table : List Entry) (params : Params) (bound : Bound) (penalty : ℤ) (b high at low : ℕ) (groups : List ActiveGroup)
    (row : List (Option Entry))
    → b ≤ p.places → line_alone params bound penalty loosest_line ≡ None → CostLoosest p params bound penalty b groups
    → IsActive p stop table b high at low groups → IsRow p table b at row → IsRow p table b (length table) row
unfolding after_class
none_waiting p stop table params bound penalty b high at low [] row within none costs is here =
    row_silent p table b at (length table) row is.gap within is.silent here
none_waiting p stop table params bound penalty b high at low (g ∷ groups) row within none costs is here =
    let next = is.0 in
    none_waiting p stop table params bound penalty b high g.end (g.place + 1) groups row within none (λ k h there. costs (suc k) h there) is.1
    (row_same p table b g.start g.end row next.group.rises
    (λ k e from to there. no_offer p e k b (costs 0 g refl e.end (next.group.entries k e from to there) ∙ refused e.end))
    (row_silent p table b at g.start row next.gap within next.silent here))
  where
    refused : (s : BreakState) → admitted_line params bound penalty s.class loosest_line ≡ None
    refused s = sym (parts params bound penalty s.class loosest_line) ∙ ap (after_class params s.class) none

pub none_offered_waiting :
    (table : List Entry) (params : Params) (bound : Bound) (lives : List Live) (place : ℕ) (penalty : ℤ) (row : List (Option Entry))
    → line_alone params bound penalty loosest_line ≡ None → IsOfferingWaiting table params bound lives place penalty row row
none_offered_waiting table params bound lives place penalty row none p stop at low cut within costs is here =
    none_waiting p stop table params bound penalty place place at low (groups_of lives) row within none costs is here

-- If there is no group, nothing is offered.
pub no_group_waits :
    (table : List Entry) (params : Params) (bound : Bound) (lives : List Live) (place : ℕ) (penalty : ℤ) (row : List (Option Entry))
    → groups_of lives ≡ [] → IsOfferingWaiting table params bound lives place penalty row row
no_group_waits table params bound lives place penalty row none p stop at low cut within costs is here =
    let last : IsActive p stop table place place at low [] = subst (IsActive p stop table place place at low) none is in
    row_silent p table place at (length table) row last.gap within last.silent here

-- Where the pass admits the loosest line, groups that wait are offered by it.
pub offered_waiting :
    (table : List Entry) (params : Params) (bound : Bound) (lives : List Live) (place : ℕ) (penalty : ℤ) (alone : LineCost) (old new : List (Option Entry))
    → Some alone ≡ line_alone params bound penalty loosest_line → IsOfferingEach table params alone lives place old new
    → IsOfferingWaiting table params bound lives place penalty old new
unfolding after_class
offered_waiting table params bound lives place penalty alone old new is each p stop at low cut within costs active here =
    each p stop at low cut within
    (λ k g there s is_place. costs k g there s is_place ∙ sym (parts params bound penalty s.class loosest_line) ∙ ap (after_class params s.class) (sym is))
    active here

-- What holds of all groups of two lists holds of those of both together.
all_joined :
    (P : Live → Type 0) (front back : List Live)
    → ((k : ℕ) (x : Live) → slice_get front k ≡ Some x → P x) → ((k : ℕ) (x : Live) → slice_get back k ≡ Some x → P x)
    → (k : ℕ) (x : Live) → slice_get (front ++ back) k ≡ Some x → P x
all_joined P front back is_front is_back k x at = cases (get_cases front back k x at)
  where
    cases : (slice_get front k ≡ Some x) ⊎ ((j : ℕ) × (k ≡ length front + j) × (slice_get back j ≡ Some x)) → P x
    cases (inl here) = is_front k x here
    cases (inr there) = is_back there.0 x there.2

pub over_joined :
    (facts : Facts) (params : Params) (b : ℕ) (front back : List Live)
    → AreOver facts params b front → AreOver facts params b back → AreOver facts params b (front ++ back)
over_joined facts params b front back = all_joined (λ x. x.over ≡ over_before facts params x.group.place b) front back

pub best_joined :
    (table : List Entry) (params : Params) (front back : List Live)
    → HaveBest table params front → HaveBest table params back → HaveBest table params (front ++ back)
best_joined table params front back = all_joined (HasBest table params) front back

-- What holds of all groups of a list holds of those from a number on.
all_from :
    (P : Live → Type 0) (n : ℕ) (lives : List Live)
    → ((k : ℕ) (x : Live) → slice_get lives k ≡ Some x → P x) → (k : ℕ) (x : Live) → slice_get (drop n lives) k ≡ Some x → P x
all_from P zero lives are k x at = are k x at
all_from P (suc n) [] are k x at = absurd (cc)
all_from P (suc n) (live ∷ lives) are k x at = all_from P n lives (λ j y there. are (suc j) y there) k x at

pub over_from :
    (facts : Facts) (params : Params) (b n : ℕ) (lives : List Live) → AreOver facts params b lives → AreOver facts params b (drop n lives)
over_from facts params b n lives = all_from (λ x. x.over ≡ over_before facts params x.group.place b) n lives

pub best_from : (table : List Entry) (params : Params) (n : ℕ) (lives : List Live) → HaveBest table params lives → HaveBest table params (drop n lives)
best_from table params n lives = all_from (HasBest table params) n lives

-- Two lists that agree from a number on are the same from there on.
pub same_rest :
    (xs ys : List Live) (n : ℕ) → length xs ≡ length ys → ((k : ℕ) → n ≤ k → slice_get xs k ≡ slice_get ys k) → drop n xs ≡ drop n ys
same_rest [] [] n long same = refl
same_rest [] (y ∷ ys) n long same = absurd (omega (arith, long))
same_rest (x ∷ xs) [] n long same = absurd (omega (arith, long))
same_rest (x ∷ xs) (y ∷ ys) zero long same =
    let first : x ≡ y = same_Some x y (same 0 (omega arith)) in
    let rest : drop 0 xs ≡ drop 0 ys = same_rest xs ys 0 (omega (arith, long)) (λ k low. same (suc k) (omega arith)) in
    ap (λ z. z ∷ xs) first ∙ ap (λ zs. y ∷ zs) rest
same_rest (x ∷ xs) (y ∷ ys) (suc n) long same = same_rest xs ys n (omega (arith, long)) (λ k low. same (suc k) (omega (arith, low)))

-- All groups that follow wait, from a place on that is no earlier.
pub wait_from :
    (facts : Facts) (params : Params) (bound : Bound) (low more b : ℕ) (lives : List Live) (end : ℕ)
    → low ≤ more → (length lives ≤ end) ⊎ AreLoosest facts params bound low b → (length lives ≤ end) ⊎ AreLoosest facts params bound more b
wait_from facts params bound low more b lives end later (inl all) = inl all
wait_from facts params bound low more b lives end later (inr wait) = inr (fewer_wait facts params bound low more b later wait)

all_wait :
    (facts : Facts) (params : Params) (bound : Bound) (low b : ℕ) (lives : List Live) (end : ℕ)
    → (length lives ≤ end) ⊎ AreLoosest facts params bound low b → AllWait facts params bound low b (groups_of (drop end lives))
all_wait facts params bound low b lives end (inr wait) = inr wait
all_wait facts params bound low b lives end (inl all) = inl (ap groups_of (past lives end all))
  where
    past : (xs : List Live) (n : ℕ) → length xs ≤ n → drop n xs ≡ []
    past [] zero low = refl
    past [] (suc n) low = refl
    past (x ∷ xs) zero low = absurd (omega (arith, low))
    past (x ∷ xs) (suc n) low = past xs n (omega (arith, low))

-- The groups from which no line is tried, after the others.
pub record RestWaits
    (facts : Facts) (params : Params) (bound : Bound) (rule : StopRule) (table : List Entry) (b at low : ℕ) (rest : List Live) : Type 0 where
  pub active : IsActive (problem_leaving_out facts params bound rule) (stops_at facts params rule) table b b at low (groups_of rest)
  pub wait : AllWait facts params bound low b (groups_of rest)
  pub over : AreOver facts params b rest
  pub best : HaveBest table params rest
  pub uncounted : 0 < length rest → params.first_lines ≡ 0

pub rest_waits :
    (facts : Facts) (params : Params) (bound : Bound) (rule : StopRule) (table : List Entry) (b at low first index end : ℕ) (lives now : List Live)
    → first ≤ index → index ≡ end → length now ≡ length lives → ((k : ℕ) → index ≤ k → slice_get now k ≡ slice_get lives k)
    → (length lives ≤ end) ⊎ AreLoosest facts params bound low b → AreOver facts params b (drop first lives) → HaveBest table params (drop first lives)
    → IsActive (problem_leaving_out facts params bound rule) (stops_at facts params rule) table b b at low (drop index (groups_of lives))
    → RestWaits facts params bound rule table b at low (drop end now)
rest_waits facts params bound rule table b at low first index end lives now begun last long rest wait over best is =
    subst (RestWaits facts params bound rule table b at low) (sym same)
    (record {
      active = subst (IsActive (problem_leaving_out facts params bound rule) (stops_at facts params rule) table b b at low)
          (ap (λ n. drop n (groups_of lives)) last ∙ drop-map (λ (x : Live). x.group) end lives) is;
      wait = all_wait facts params bound low b lives end wait;
      over = subst (AreOver facts params b) from_end (over_from facts params b (end - first) (drop first lives) over);
      best = subst (HaveBest table params) from_end (best_from table params (end - first) (drop first lives) best);
      uncounted = λ some. none some wait;
    })
  where
    from_end : drop (end - first) (drop first lives) ≡ drop end lives
    from_end =
        let at : first + (end - first) ≡ end = omega (arith, begun, last) in
        drop-drop (end - first) first lives ∙ ap (λ n. drop n lives) at

    same : drop end now ≡ drop end lives
    same = same_rest now lives end long (λ k low. rest k (omega (arith, low, last)))

    some_rest : (xs : List Live) (n : ℕ) → 0 < length (drop n xs) → n < length xs
    some_rest [] zero some = absurd (omega (arith, some))
    some_rest [] (suc n) some = absurd (omega (arith, some))
    some_rest (x ∷ xs) zero some = omega arith
    some_rest (x ∷ xs) (suc n) some = omega (arith, some_rest xs n some)

    none : 0 < length (drop end lives) → (length lives ≤ end) ⊎ AreLoosest facts params bound low b → params.first_lines ≡ 0
    none some (inl all) = absurd (omega (arith, all, some_rest lives end some))
    none some (inr wait) = wait.uncounted

-- The groups that are kept, and those that wait.
pub front_with_rest :
    (facts : Facts) (params : Params) (bound : Bound) (rule : StopRule) (table : List Entry) (b at low : ℕ) (kept rest : List Live)
    → MayStop rule facts params bound → b ≤ facts.places → is_forced (facts.penalty b) ≡ false
    → RestWaits facts params bound rule table b at low rest
    → IsFront (problem_leaving_out facts params bound rule) (stops_at facts params rule) table b b at low (groups_of kept)
    → IsActive (problem_leaving_out facts params bound rule) (stops_at facts params rule) table (b + 1) b 0 0 (groups_of (kept ++ rest))
front_with_rest facts params bound rule table b at low kept rest may within free waiting front =
    subst (λ xs. IsActive (problem_leaving_out facts params bound rule) (stops_at facts params rule) table (b + 1) b 0 0 xs)
    (sym (map-append (λ (x : Live). x.group) kept rest))
    (front (groups_of rest) free (active_waiting facts params bound rule table b b at low (groups_of rest) may within free waiting.wait waiting.active))

pub over_with_rest :
    (facts : Facts) (params : Params) (bound : Bound) (rule : StopRule) (table : List Entry) (b at low : ℕ) (kept rest : List Live)
    → RestWaits facts params bound rule table b at low rest → AreOver facts params (b + 1) kept → AreOver facts params (b + 1) (kept ++ rest)
over_with_rest facts params bound rule table b at low kept rest waiting over =
    over_joined facts params (b + 1) kept rest over
    (over_waiting facts params bound rule table b b at low rest waiting.wait waiting.active waiting.over)

-- A line was tried from the first group, if there is one.
pub first_tried :
    (index end : ℕ) (lives : List Live) (before now : ℕ → ℕ)
    → index ≡ end → (length lives ≤ end) ⊎ (0 < end) → (0 < index → WasTried (groups_of lives) before now) → WasTried (groups_of lives) before now
first_tried index end [] before now last some tried = λ g there. absurd (cc)
first_tried index end (live ∷ lives) before now last (inl all) tried = tried (omega (arith, last, all))
first_tried index end (live ∷ lives) before now last (inr some) tried = tried (omega (arith, last, some))

-- The same for the groups of a list from a number on.
pub first_tried_from :
    (first index end : ℕ) (lives : List Live) (before now : ℕ → ℕ)
    → first ≤ index → index ≡ end → (length lives ≤ end) ⊎ (first < end) → (first < index → WasTried (groups_of (drop first lives)) before now)
    → WasTried (groups_of (drop first lives)) before now
first_tried_from first index end lives before now begun last some tried =
    first_tried (index - first) (end - first) (drop first lives) before now (omega (arith, last)) (cases some) (λ more. tried (omega (arith, more)))
  where
    cases : (length lives ≤ end) ⊎ (first < end) → (length (drop first lives) ≤ end - first) ⊎ (0 < end - first)
    cases (inl all) = inl (omega (arith, all, length-drop first lives))
    cases (inr more) = inr (omega (arith, more))
