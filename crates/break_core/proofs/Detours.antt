-- In the last pass over a steady paragraph each long line has a detour.
use Rattle.std.proofs.Common.{◌≡◌, ◌∙◌, ℕ, zero, suc, ◌+◌, ◌<◌, ◌≤◌, min, Bool, true, false, ◌&&◌, refl, ap, sym, subst, arith, Option, Some, None}
use Rattle.std.specs.Prelude.{ℤ, nat_lt, int_lt, ◌+ℤ◌, ◌-ℤ◌, ◌<ℤ◌, ◌≤ℤ◌}
use Rattle.std.specs.Option.{option_map}
use Rattle.std.proofs.Math.Logic.{◌⊎◌, inl, inr}
use Rattle.std.proofs.lemmas.Int.{ints}
use Rattle.std.proofs.lemmas.Bool.{cases_Bool, cond-true, cond-false}
use Rattle.std.proofs.lemmas.Option.{same_Some}
use Rattle.node_core.specs.declared.params.Params.{Params}
use Rattle.break_lines.specs.declared.answer.ChosenBreaks.{ChosenBreaks}
use Rattle.break_lines.specs.declared.state.Fitness.{Fitness}
use Rattle.break_lines.specs.declared.state.BreakState.{BreakState}
use Rattle.break_lines.specs.declared.state.LineCost.{LineCost}
use Rattle.break_lines.specs.Problems.{end_after}
use Rattle.break_lines.specs.Chosen.{IsAnswer, AdmitsNone}
use Rattle.break_lines.specs.Private.Parts.{IsNoWorse, IsOrder, IsDetour, HasDetours}
use Rattle.break_lines.proofs.TableParts.{answer_of_part, none_of_part}
use Rattle.break_lines.specs.declared.cost.LineFit.{LineFit}
use Rattle.break_lines.specs.declared.cost.Bound.TheVariants.{Any}
use Rattle.break_lines.specs.Costs.{line_fit, admits, admitted_line, demerits_of}
use Rattle.break_lines.specs.Sizes.{line_size, least_width}
use Rattle.break_lines.proofs.Bounds.{hangs_not}
use Rattle.break_lines.proofs.Widths.{overhang_is, overhang_less, overfull_each, size_counted, size_some, size_rest}
use Rattle.break_lines.specs.Facts.{Facts}
use Rattle.break_lines.specs.Divided.{IsDivided}
use Rattle.break_core.specs.Passes.{problem_of}
use Rattle.break_core.specs.Trials.{is_overfull}
use Rattle.break_core.specs.Private.LeftOut.{first_over, is_long, is_more, kept_over, problem_without_long, IsWidening, MayLeaveOut}
use Rattle.break_core.proofs.Overfull.{both_true, overfull_stays}

-- The line in a pass that admits every line.
abbrev any_line : Params → (penalty : ℤ) → Fitness → LineFit → LineCost
any_line params penalty before line = record { class = line.class; overhang = line.overhang; demerits = demerits_of params penalty before line }

any_is : (params : Params) (penalty : ℤ) (before : Fitness) (line : LineFit) → admitted_line params Any penalty before line ≡ Some (any_line params penalty before line)
unfolding admitted_line admits
any_is params penalty before line = refl

-- A state is as good as another one for the same place if the lines that follow it are at least as wide.
abbrev IsAsGoodAs : Params → BreakState → BreakState → Type 0
IsAsGoodAs params s t = (s.place ≡ t.place) × ((more : ℕ) → line_size params (t.lines + more) ≤ℤ line_size params (s.lines + more))

-- The first place to which a line is overfull.
pub record IsFirstOver (facts : Facts) (params : Params) (a m b : ℕ) : Type 0 where
  pub later : a < m
  pub before : m < b
  pub over : is_overfull facts params a m ≡ true
  pub none : first_over facts params a m ≡ None

pub first_is : (facts : Facts) (params : Params) (a b m : ℕ) → first_over facts params a b ≡ Some m → IsFirstOver facts params a m b
unfolding first_over
first_is facts params a zero m some =
    let no : None ≡ Some m = some in
    absurd (cc)
first_is facts params a (suc b) m some =
    cases (first_over facts params a b) refl (λ n. first_is facts params a b n) (cases_Bool (nat_lt a b && is_overfull facts params a b))
  where
    here : Bool
    here = nat_lt a b && is_overfull facts params a b

    above : (n k : ℕ) → nat_lt n k ≡ true → n < k
    above n k h = grind arith

    cases :
        (x : Option ℕ) → first_over facts params a b ≡ x
        → ((n : ℕ) → first_over facts params a b ≡ Some n → IsFirstOver facts params a n b)
        → ((nat_lt a b && is_overfull facts params a b) ≡ true) ⊎ ((nat_lt a b && is_overfull facts params a b) ≡ false)
        → IsFirstOver facts params a m (suc b)
    cases (Some n) found shorter other =
        let one : n ≡ m = same_Some n m (sym (ap (λ x. kept_over x here b) found) ∙ some) in
        let old = shorter n found in
        subst (λ k. IsFirstOver facts params a k (suc b)) one
        (record { later = old.later; before = omega (arith, old.before); over = old.over; none = old.none })
    cases None nothing shorter (inl is) =
        let one : b ≡ m = same_Some b m (sym (ap (λ x. kept_over x here b) nothing ∙ cond-true here (Some b) None is) ∙ some) in
        let both = both_true (nat_lt a b) (is_overfull facts params a b) is in
        subst (λ k. IsFirstOver facts params a k (suc b)) one
        (record { later = above a b both.0; before = omega arith; over = both.1; none = nothing })
    cases None nothing shorter (inr is_not) =
        let no : None ≡ Some m = sym (ap (λ x. kept_over x here b) nothing ∙ cond-false here (Some b) None is_not) ∙ some in
        absurd (cc)

not_long : (facts : Facts) (params : Params) (a m : ℕ) → first_over facts params a m ≡ None → is_long facts params a m ≡ false
unfolding is_long
not_long facts params a m none =
    ap (λ x. is_more (option_map (λ place. least_width (facts.sums a place)) x) (least_width (facts.sums a m))) none

pub long_means :
    (facts : Facts) (params : Params) (a b : ℕ) → is_long facts params a b ≡ true
    → (m : ℕ) × (first_over facts params a b ≡ Some m) × (least_width (facts.sums a m) <ℤ least_width (facts.sums a b))
unfolding is_long
long_means facts params a b is = cases (first_over facts params a b) refl
  where
    lower : (x y : ℤ) → int_lt x y ≡ true → x <ℤ y
    lower x y h = grind (arith, ints)

    cases :
        (x : Option ℕ) → first_over facts params a b ≡ x
        → (m : ℕ) × (first_over facts params a b ≡ Some m) × (least_width (facts.sums a m) <ℤ least_width (facts.sums a b))
    cases None none =
        let no : false ≡ true =
        sym (ap (λ x. is_more (option_map (λ place. least_width (facts.sums a place)) x) (least_width (facts.sums a b))) none) ∙ is in
        absurd (cc)
    cases (Some m) some =
        let less : int_lt (least_width (facts.sums a m)) (least_width (facts.sums a b)) ≡ true =
        sym (ap (λ x. is_more (option_map (λ place. least_width (facts.sums a place)) x) (least_width (facts.sums a b))) some) ∙ is in
        (m, some, lower (least_width (facts.sums a m)) (least_width (facts.sums a b)) less)

-- From the second line on no line is wider than the next one, nor than any later one.
next_wider : (params : Params) (lines : ℕ) → IsWidening params → line_size params (lines + 1) ≤ℤ line_size params (lines + 2)
next_wider params lines widening = cases (cases_Bool (nat_lt (lines + 1) params.first_lines)) (cases_Bool (nat_lt (lines + 2) params.first_lines))
  where
    cases :
        (nat_lt (lines + 1) params.first_lines ≡ true) ⊎ (nat_lt (lines + 1) params.first_lines ≡ false)
        → (nat_lt (lines + 2) params.first_lines ≡ true) ⊎ (nat_lt (lines + 2) params.first_lines ≡ false)
        → line_size params (lines + 1) ≤ℤ line_size params (lines + 2)
    cases (inl one) (inl two) = omega (arith, ints, size_some params (lines + 1) one, size_some params (lines + 2) two)
    cases (inl one) (inr two) =
        let more = above (lines + 1) params.first_lines one in
        let few = widening (omega (arith, more)) in
        omega (arith, ints, size_some params (lines + 1) one, size_rest params (lines + 2) two, few)
      where
        above : (n k : ℕ) → nat_lt n k ≡ true → n < k
        above n k h = grind arith
    cases (inr one) (inl two) = absurd (grind arith)
    cases (inr one) (inr two) = omega (arith, ints, size_rest params (lines + 1) one, size_rest params (lines + 2) two)

second_least : (params : Params) (lines : ℕ) → IsWidening params → line_size params 1 ≤ℤ line_size params (lines + 1)
second_least params zero widening = omega (arith, ints)
second_least params (suc n) widening =
    let before = second_least params n widening in
    let next = next_wider params n widening in
    let one : n + 2 ≡ suc n + 1 = omega arith in
    omega (arith, ints, before, next, ap (line_size params) one)

-- The lines of the last pass.
line_is :
    (facts : Facts) (params : Params) (s : BreakState) (b : ℕ)
    → (problem_of facts params Any).line s b ≡ Some (any_line params (facts.penalty b) s.class (line_fit (facts.sums s.place b) (line_size params s.lines)))
line_is facts params s b = any_is params (facts.penalty b) s.class (line_fit (facts.sums s.place b) (line_size params s.lines))

-- The order of states that are as good.
as_good_order : (facts : Facts) (params : Params) → IsOrder (problem_of facts params Any) (IsAsGoodAs params)
as_good_order facts params =
    record {
      same = λ s. (refl, λ more. omega (arith, ints));
      joined = λ s t u left right. (left.0 ∙ right.0, λ more. let a = left.1 more in let b = right.1 more in omega (arith, ints, a, b));
      place = λ s t as_good. as_good.0;
      line = line;
    }
  where
    counted :
        (s t : BreakState) → ((more : ℕ) → line_size params (t.lines + more) ≤ℤ line_size params (s.lines + more)) → (more : ℕ)
        → line_size params (min (t.lines + 1) params.first_lines + more) ≤ℤ line_size params (min (s.lines + 1) params.first_lines + more)
    counted s t wide more =
        let a = size_counted params t.lines more in
        let b = size_counted params s.lines more in
        let n : t.lines + (1 + more) ≡ (t.lines + 1) + more = omega arith in
        let m : s.lines + (1 + more) ≡ (s.lines + 1) + more = omega arith in
        let w = wide (1 + more) in
        omega (arith, ints, a, b, w, ap (line_size params) n, ap (line_size params) m)

    line :
        (s t : BreakState) (b : ℕ) (l : LineCost) → IsAsGoodAs params s t → (problem_of facts params Any).line t b ≡ Some l
        → IsNoWorse (problem_of facts params Any) (IsAsGoodAs params) s t b l
    line s t b l as_good is =
        let old : any_line params (facts.penalty b) t.class (line_fit (facts.sums t.place b) (line_size params t.lines)) ≡ l =
        same_Some _ l (sym (line_is facts params t b) ∙ is) in
        let hangs : l.overhang ≡ (line_fit (facts.sums t.place b) (line_size params t.lines)).overhang = ap (λ x. x.overhang) (sym old) in
        let n : t.lines ≡ t.lines + 0 = omega arith in
        let m : s.lines ≡ s.lines + 0 = omega arith in
        let wide = as_good.1 0 in
        let less = overhang_less (facts.sums t.place b) (line_size params s.lines) (line_size params t.lines)
        (omega (arith, ints, wide, ap (line_size params) n, ap (line_size params) m)) in
        let same : (line_fit (facts.sums s.place b) (line_size params s.lines)).overhang ≡ (line_fit (facts.sums t.place b) (line_size params s.lines)).overhang =
        ap (λ a. (line_fit (facts.sums a b) (line_size params s.lines)).overhang) as_good.0 in
        record {
          line = any_line params (facts.penalty b) s.class (line_fit (facts.sums s.place b) (line_size params s.lines));
          is = line_is facts params s b;
          less = omega (arith, ints, hangs, less, same);
          as_good = (refl, λ more. counted s t as_good.1 more);
        }

-- Two lines have less overhang together than a long one.
two_less :
    (facts : Facts) (params : Params) (a m b : ℕ) (size next o_l o_m : ℤ)
    → IsDivided facts (line_size params 1) → a < m → m < b → b ≤ facts.places → line_size params 1 ≤ℤ next
    → o_l ≡ ((facts.sums a b).width -ℤ size) -ℤ (facts.sums a b).shrink
    → o_m ≡ ((facts.sums a m).width -ℤ size) -ℤ (facts.sums a m).shrink
    → least_width (facts.sums a m) <ℤ least_width (facts.sums a b)
    → (o_m +ℤ (line_fit (facts.sums m b) next).overhang) <ℤ o_l
two_less facts params a m b size next o_l o_m divided later before within wide is_l is_m more =
    cases (cases_Bool (line_fit (facts.sums m b) next).overfull)
  where
    cases :
        ((line_fit (facts.sums m b) next).overfull ≡ true) ⊎ ((line_fit (facts.sums m b) next).overfull ≡ false)
        → (o_m +ℤ (line_fit (facts.sums m b) next).overhang) <ℤ o_l
    cases (inl is) =
        let o = overhang_is (facts.sums m b) next is in
        let d = divided a m b later before within in
        omega (arith, ints, o, d, is_l, is_m, wide)
    cases (inr fits) =
        let o = hangs_not (facts.sums m b) next fits in
        omega (arith, ints, o, is_l, is_m, more)

-- A long line has a detour over the first place to which it is overfull.
detour_over :
    (facts : Facts) (params : Params) → MayLeaveOut facts params → (s : BreakState) (b : ℕ) (l : LineCost)
    → b ≤ facts.places → (problem_of facts params Any).line s b ≡ Some l
    → (m : ℕ) → IsFirstOver facts params s.place m b → least_width (facts.sums s.place m) <ℤ least_width (facts.sums s.place b)
    → IsDetour (problem_of facts params Any) (λ t c. is_long facts params t.place c) (IsAsGoodAs params) s b l
detour_over facts params may s b l within is m first more =
    record {
      by = m;
      later = first.later;
      before = first.before;
      first = any_line params (facts.penalty m) s.class one;
      first_is = line_is facts params s m;
      kept = not_long facts params s.place m first.none;
      second = any_line params (facts.penalty b) one.class (line_fit (facts.sums m b) next);
      second_is = line_is facts params (end_after params.first_lines s m (any_line params (facts.penalty m) s.class one)) b;
      less = two_less facts params s.place m b size next l.overhang one.overhang may.divided first.later first.before within wide hangs
          (overhang_is (facts.sums s.place m) size over_m) more;
      as_good = (refl, as_good);
    }
  where
    size : ℤ
    size = line_size params s.lines

    next : ℤ
    next = line_size params (min (s.lines + 1) params.first_lines)

    is_next : line_size params (min (s.lines + 1) params.first_lines) ≡ line_size params (s.lines + 1)
    is_next =
        let n : min (s.lines + 1) params.first_lines ≡ min (s.lines + 1) params.first_lines + 0 = omega arith in
        let k : (s.lines + 1) + 0 ≡ s.lines + 1 = omega arith in
        ap (line_size params) n ∙ size_counted params s.lines 0 ∙ ap (line_size params) k

    wide : line_size params 1 ≤ℤ line_size params (min (s.lines + 1) params.first_lines)
    wide = let least = second_least params s.lines may.widening in omega (arith, ints, least, is_next)

    one : LineFit
    one = line_fit (facts.sums s.place m) size

    over_m : (line_fit (facts.sums s.place m) size).overfull ≡ true
    over_m = overfull_each params (facts.sums s.place m) s.lines first.over

    over_b : (line_fit (facts.sums s.place b) size).overfull ≡ true
    over_b =
        overfull_each params (facts.sums s.place b) s.lines
        (overfull_stays facts params s.place m b may.steady first.later (omega (arith, first.before)) within first.over)

    hangs : l.overhang ≡ ((facts.sums s.place b).width -ℤ size) -ℤ (facts.sums s.place b).shrink
    hangs =
        let old : any_line params (facts.penalty b) s.class (line_fit (facts.sums s.place b) size) ≡ l = same_Some _ l (sym (line_is facts params s b) ∙ is) in
        ap (λ x. x.overhang) (sym old) ∙ overhang_is (facts.sums s.place b) size over_b

    as_good :
        (more : ℕ)
        → line_size params (min (s.lines + 1) params.first_lines + more)
        ≤ℤ line_size params (min (min (s.lines + 1) params.first_lines + 1) params.first_lines + more)
    as_good more =
        let x = size_counted params (min (s.lines + 1) params.first_lines) more in
        let n : (min (s.lines + 1) params.first_lines + 1) + more ≡ min (s.lines + 1) params.first_lines + (1 + more) = omega arith in
        let y = size_counted params s.lines (1 + more) in
        let k : (s.lines + 1) + (1 + more) ≡ (s.lines + more) + 2 = omega arith in
        let z = size_counted params s.lines more in
        let j : (s.lines + 1) + more ≡ (s.lines + more) + 1 = omega arith in
        let w = next_wider params (s.lines + more) may.widening in
        omega (arith, ints, x, ap (line_size params) n, y, ap (line_size params) k, z, ap (line_size params) j, w)

-- The lines that are left out have detours.
detours :
    (facts : Facts) (params : Params) → MayLeaveOut facts params
    → HasDetours (problem_of facts params Any) (λ s b. is_long facts params s.place b) (IsAsGoodAs params)
detours facts params may s b l later since_b within is long =
    let means = long_means facts params s.place b long in
    detour_over facts params may s b l within is means.0 (first_is facts params s.place b means.0 means.1) means.2

-- In the last pass the answer of the problem without these lines is the answer, and if that problem has none there is none.
pub answer_without :
    (facts : Facts) (params : Params) (answer : ChosenBreaks) → MayLeaveOut facts params
    → IsAnswer (problem_without_long facts params) answer → IsAnswer (problem_of facts params Any) answer
answer_without facts params answer may is =
    answer_of_part (problem_of facts params Any) (λ s b. is_long facts params s.place b) (IsAsGoodAs params) answer (as_good_order facts params)
    (detours facts params may) is

pub none_without :
    (facts : Facts) (params : Params) → MayLeaveOut facts params → AdmitsNone (problem_without_long facts params) → AdmitsNone (problem_of facts params Any)
none_without facts params may none =
    none_of_part (problem_of facts params Any) (λ s b. is_long facts params s.place b) (IsAsGoodAs params) (as_good_order facts params)
    (detours facts params may) none
