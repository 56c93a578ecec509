-- Lines that are stretched by so much that lines that are stretched by more cost the same: a line is so too if it is no wider and stretches no more.
use Rattle.std.proofs.Common.{◌≡◌, ◌∙◌, ℕ, zero, suc, ◌*◌, ◌/◌, ◌<◌, ◌≤◌, Bool, true, false, not, cond, ◌&&◌, ◌||◌, refl, ap, sym, arith}
use Rattle.std.specs.Prelude.{None, ℤ, pos, negsuc, neg_ℤ, ◌-ℤ◌, ◌<ℤ◌, ◌≤ℤ◌, int_lt, int_le, nat_lt, nat_le}
use Rattle.std.proofs.Math.Logic.{◌⊎◌, inl, inr}
use Rattle.std.proofs.Math.Nat.{mul-le-mul, mul-le-mul_left, div-mul-le_self}
use Rattle.std.proofs.lemmas.Nat.{le-div}
use Rattle.std.proofs.lemmas.Int.{ints, by_lt_z}
use Rattle.std.proofs.lemmas.Bool.{cases_Bool, cases_lt, cond-true, cond-false}
use Rattle.std.proofs.lemmas.Bool.Decides.{nat_tests}
use Rattle.scaled_core.specs.Badness.{IsBadness, IsRatioBadness, badness_of, badness_ratio}
use Rattle.scaled_core.proofs.BadnessLaws.{badness_of-is}
use Rattle.node_core.specs.Classes.{is_zero}
use Rattle.break_lines.specs.declared.state.Fitness.{Fitness}
use Rattle.break_lines.specs.declared.state.Fitness.TheVariants.{VeryLoose, Loose, Decent, Tight}
use Rattle.break_lines.specs.declared.sums.Sums.{Sums}
use Rattle.break_lines.specs.declared.cost.LineFit.{LineFit}
use Rattle.break_lines.specs.declared.cost.Bound.{Bound}
use Rattle.break_lines.specs.declared.cost.Bound.TheVariants.{Any, AtMost}
use Rattle.node_core.specs.declared.params.Params.{Params}
use Rattle.break_lines.specs.Costs.{stretches_forever, stretched_class, shrunk_class, fit_short, fit_long, line_fit, is_loose, looseness_limit, is_loosest, admitted_line, admits}
use Rattle.break_lines.specs.Private.Costs.{loosest_line}
use Rattle.break_lines.specs.Even.{Covers, HasNoNegativeFil}
use Rattle.break_lines.proofs.Bounds.{ratio_most, badness_most}
use Rattle.break_lines.proofs.Costs.{by_short, by_long}

-- A quotient grows with its numerator, and when its denominator shrinks.
div_order : (x y s t : ℕ) → x ≤ y → t ≤ s → 0 < t → x / s ≤ y / t
div_order x y s t less fewer some =
    let low : x / s * s ≤ x = div-mul-le_self x s in
    let by : x / s * t ≤ x / s * s = mul-le-mul_left (x / s) fewer in
    le-div (x / s) y t some (omega (arith, low, by, less))

-- The quotient for small amounts is no greater than that for large ones.
div_mixed : (x y s t : ℕ) → x ≤ y → t ≤ s → 297 ≤ t → x * 297 / s ≤ y / (t / 297)
div_mixed x y s t less fewer some =
    let r = x * 297 / s in
    let q = t / 297 in
    let low : r * s ≤ x * 297 = div-mul-le_self (x * 297) s in
    let part : q * 297 ≤ t = div-mul-le_self t 297 in
    let front : r * (q * 297) ≤ r * t = mul-le-mul_left r part in
    let back : r * t ≤ r * s = mul-le-mul_left r fewer in
    let one : 1 ≤ q = le-div 1 t 297 (omega arith) (omega (arith, some)) in
    let all : r * q * 297 ≤ y * 297 = omega (arith, low, front, back, less) in
    le-div r y q (omega (arith, one)) (omega (arith, all))

-- The ratio for a greater amount and less stretch is no less, or it is above 1290.
ratio_order :
    (x y s t : ℕ) → x ≤ y → t ≤ s → 0 < t → (badness_ratio x s ≤ badness_ratio y t) ⊎ (1290 < badness_ratio y t)
unfolding badness_ratio
ratio_order x y s t less fewer some = cases (cases_lt 7230584 y)
  where
    small : (a b : ℕ) → a ≤ 7230584 → badness_ratio a b ≡ a * 297 / b
    small a b low =
        let test : nat_le a 7230584 ≡ true = grind (arith, nat_tests) in
        cond-true (nat_le a 7230584) (a * 297 / b) (cond (nat_le 1663497 b) (a / (b / 297)) a) test

    large : (a b : ℕ) → 7230584 < a → badness_ratio a b ≡ cond (nat_le 1663497 b) (a / (b / 297)) a
    large a b low =
        let test : nat_le a 7230584 ≡ false = grind (arith, nat_tests) in
        cond-false (nat_le a 7230584) (a * 297 / b) (cond (nat_le 1663497 b) (a / (b / 297)) a) test

    large_much : (a b : ℕ) → 7230584 < a → 1663497 ≤ b → badness_ratio a b ≡ a / (b / 297)
    large_much a b low much =
        let test : nat_le 1663497 b ≡ true = grind (arith, nat_tests) in
        large a b low ∙ cond-true (nat_le 1663497 b) (a / (b / 297)) a test

    large_little : (a b : ℕ) → 7230584 < a → b < 1663497 → badness_ratio a b ≡ a
    large_little a b low little =
        let test : nat_le 1663497 b ≡ false = grind (arith, nat_tests) in
        large a b low ∙ cond-false (nat_le 1663497 b) (a / (b / 297)) a test

    both : 7230584 < y → 1663497 ≤ t → (7230584 < x) ⊎ (x ≤ 7230584) → badness_ratio x s ≤ badness_ratio y t
    both high much (inl more) =
        let one : 1 ≤ t / 297 = le-div 1 t 297 (omega arith) (omega (arith, much)) in
        let fewer_parts : t / 297 ≤ s / 297 = div_order t s 297 297 fewer (omega arith) (omega arith) in
        let is = div_order x y (s / 297) (t / 297) less fewer_parts (omega (arith, one)) in
        omega (arith, is, large_much x s more (omega (arith, much, fewer)), large_much y t high much)
    both high much (inr low) =
        let is = div_mixed x y s t less fewer (omega (arith, much)) in
        omega (arith, is, small x s low, large_much y t high much)

    high_cases : 7230584 < y → (t < 1663497) ⊎ (1663497 ≤ t) → (badness_ratio x s ≤ badness_ratio y t) ⊎ (1290 < badness_ratio y t)
    high_cases high (inl little) = inr (omega (arith, high, large_little y t high little))
    high_cases high (inr much) = inl (both high much (cases_lt 7230584 x))

    cases : (7230584 < y) ⊎ (y ≤ 7230584) → (badness_ratio x s ≤ badness_ratio y t) ⊎ (1290 < badness_ratio y t)
    cases (inl high) = high_cases high (cases_lt t 1663497)
    cases (inr low) =
        let is = div_order (x * 297) (y * 297) s t (omega (arith, less)) fewer some in
        inl (omega (arith, is, small x s (omega (arith, low, less)), small y t low))

-- The badness of a greater ratio is no less.
ratio_badness_order : (r u b c : ℕ) → IsRatioBadness r b → IsRatioBadness u c → (r ≤ u) ⊎ (1290 < u) → b ≤ c
ratio_badness_order r u b c is is_more order = cases (cases_lt 1290 u) order
  where
    cases : (1290 < u) ⊎ (u ≤ 1290) → (r ≤ u) ⊎ (1290 < u) → b ≤ c
    cases (inl large) any = omega (arith, is_more.large large, ratio_most r b is)
    cases (inr small) (inr large) = absurd (omega (arith, small, large))
    cases (inr small) (inl less) =
        let cube : r * r * r ≤ u * u * u = mul-le-mul (mul-le-mul less less) less in
        let low = is.cube (omega (arith, small, less)) in
        let high = is_more.cube small in
        omega (arith, cube, low.low, high.high)

-- Badness grows with the amount, and when there is less stretch.
pub badness_order : (x y s t : ℤ) → pos 0 <ℤ x → x ≤ℤ y → t ≤ℤ s → badness_of x s ≤ badness_of y t
badness_order x y s t some less fewer =
    cases x y s t (badness_of-is x s (omega (arith, ints, some))) (badness_of-is y t (omega (arith, ints, some, less))) some less fewer
  where
    cases :
        (x y s t : ℤ) → IsBadness x s (badness_of x s) → IsBadness y t (badness_of y t) → pos 0 <ℤ x → x ≤ℤ y → t ≤ℤ s
        → badness_of x s ≤ badness_of y t
    cases x y s (pos zero) is is_more some less fewer =
        omega (arith, ints, badness_most x s (omega (arith, ints, some)), is_more.rigid (omega (arith, ints, some, less)) (omega (arith, ints)))
    cases x y s (negsuc t) is is_more some less fewer =
        omega (arith, ints, badness_most x s (omega (arith, ints, some)), is_more.rigid (omega (arith, ints, some, less)) (omega (arith, ints)))
    cases (pos x) (pos y) (pos s) (pos (suc t)) is is_more some less fewer =
        ratio_badness_order (badness_ratio x s) (badness_ratio y (suc t)) (badness_of (pos x) (pos s)) (badness_of (pos y) (pos (suc t)))
        (is.elastic some (omega (arith, ints, fewer))) (is_more.elastic (omega (arith, ints, some, less)) (omega (arith, ints)))
        (ratio_order x y s (suc t) (omega (arith, ints, less)) (omega (arith, ints, fewer)) (omega arith))
    cases (negsuc x) y s (pos (suc t)) is is_more some less fewer = absurd (omega (arith, ints, some))
    cases (pos x) (negsuc y) s (pos (suc t)) is is_more some less fewer = absurd (omega (arith, ints, less))
    cases (pos x) (pos y) (negsuc s) (pos (suc t)) is is_more some less fewer = absurd (omega (arith, ints, fewer))

-- What it means that a line of this size is too loose for a number.
pub record IsLoose (most : ℤ) (s : Sums) (size : ℤ) : Type 0 where
  pub short : pos 0 <ℤ (size -ℤ s.width)
  pub finite : stretches_forever s ≡ false
  pub above : most <ℤ pos (badness_of (size -ℤ s.width) s.stretch)
  pub some : 12 < badness_of (size -ℤ s.width) s.stretch

-- A line with this badness that is stretched.
abbrev pub stretched : (badness : ℕ) → LineFit
stretched badness = record { overfull = false; badness = badness; class = stretched_class badness; overhang = pos 0 }

-- A line that is too loose is set with the stretch of normal order.
pub loose_line : (most : ℤ) (s : Sums) (size : ℤ) → IsLoose most s size → line_fit s size ≡ stretched (badness_of (size -ℤ s.width) s.stretch)
unfolding line_fit fit_short
loose_line most s size is =
    by_short s (size -ℤ s.width) is.short
    ∙ cond-false (stretches_forever s) (record { overfull = false; badness = 0; class = Decent; overhang = pos 0 })
    (stretched (badness_of (size -ℤ s.width) s.stretch)) is.finite

stretched_loose : (badness : ℕ) → 12 < badness → is_loose (stretched_class badness) ≡ true
unfolding stretched_class is_loose
stretched_loose badness some = cases (cases_Bool (nat_lt 99 badness))
  where
    loose : nat_lt 12 badness ≡ true
    loose = grind (arith, nat_tests)

    rest : Fitness
    rest = cond (nat_lt 12 badness) Loose Decent

    cases : (nat_lt 99 badness ≡ true) ⊎ (nat_lt 99 badness ≡ false) → is_loose (stretched_class badness) ≡ true
    cases (inl very) = ap is_loose (cond-true (nat_lt 99 badness) VeryLoose rest very)
    cases (inr less) =
        ap is_loose (cond-false (nat_lt 99 badness) VeryLoose rest less ∙ cond-true (nat_lt 12 badness) Loose Decent loose)

loose_stretched : (badness : ℕ) → is_loose (stretched_class badness) ≡ true → 12 < badness
unfolding stretched_class is_loose
loose_stretched badness is = cases (cases_lt 12 badness)
  where
    cases : (12 < badness) ⊎ (badness ≤ 12) → 12 < badness
    cases (inl some) = some
    cases (inr little) =
        let very : nat_lt 99 badness ≡ false = grind (arith, nat_tests) in
        let loose : nat_lt 12 badness ≡ false = grind (arith, nat_tests) in
        let decent : stretched_class badness ≡ Decent =
        cond-false (nat_lt 99 badness) VeryLoose (cond (nat_lt 12 badness) Loose Decent) very ∙ cond-false (nat_lt 12 badness) Loose Decent loose in
        let no : false ≡ true = sym (ap is_loose decent) ∙ is in
        absurd (cc)

-- Either of two classes that are not loose is not loose.
neither_loose : (t : Bool) (x y : Fitness) → is_loose x ≡ false → is_loose y ≡ false → is_loose (cond t x y) ≡ false
neither_loose true x y is_not is_not_either = is_not
neither_loose false x y is_not is_not_either = is_not_either

class_of_either : (t : Bool) (x y : LineFit) → is_loose x.class ≡ false → is_loose y.class ≡ false → is_loose (cond t x y).class ≡ false
class_of_either true x y is_not is_not_either = is_not
class_of_either false x y is_not is_not_either = is_not_either

long_tight : (s : Sums) (x : ℤ) → is_loose (fit_long s x).class ≡ false
unfolding fit_long shrunk_class is_loose
long_tight s x =
    class_of_either (int_lt s.shrink x) _ _ refl (neither_loose (nat_lt 12 (badness_of x s.shrink)) Tight Decent refl refl)

two : (t u : Bool) → (t && u) ≡ true → (t ≡ true) × (u ≡ true)
two true u is = (refl, is)
two false u is = absurd (cc)

pub loose_means : (bound : Bound) (s : Sums) (size : ℤ) → is_loosest bound (line_fit s size) ≡ true → IsLoose (looseness_limit bound) s size
unfolding is_loosest line_fit fit_short is_loose
loose_means bound s size is = by_lt_z (pos 0) (size -ℤ s.width) short_case long_case
  where
    x : ℤ
    x = size -ℤ s.width

    most : ℤ
    most = looseness_limit bound

    both : (is_loose (line_fit s size).class ≡ true) × (int_lt most (pos (line_fit s size).badness) ≡ true)
    both = two (is_loose (line_fit s size).class) (int_lt most (pos (line_fit s size).badness)) is

    long_case : x ≤ℤ pos 0 → IsLoose most s size
    long_case long =
        let t = s.width -ℤ size in
        let same : t ≡ neg_ℤ x = omega (arith, ints) in
        let no : false ≡ true = sym (long_tight s t) ∙ ap (λ j. is_loose j.class) (sym (by_long s x t long same)) ∙ both.0 in
        absurd (cc)

    short_case : pos 0 <ℤ x → IsLoose most s size
    short_case short = cases (cases_Bool (stretches_forever s))
      where
        filled : LineFit
        filled = record { overfull = false; badness = 0; class = Decent; overhang = pos 0 }

        b : ℕ
        b = badness_of x s.stretch

        cases : (stretches_forever s ≡ true) ⊎ (stretches_forever s ≡ false) → IsLoose most s size
        cases (inl forever) =
            let line : line_fit s size ≡ filled = by_short s x short ∙ cond-true (stretches_forever s) filled (stretched b) forever in
            let no : false ≡ true = sym (ap (λ j. is_loose j.class) line) ∙ both.0 in
            absurd (cc)
        cases (inr finite) =
            let line : line_fit s size ≡ stretched b = by_short s x short ∙ cond-false (stretches_forever s) filled (stretched b) finite in
            let above : int_lt most (pos b) ≡ true = ap (λ j. int_lt most (pos j.badness)) (sym line) ∙ both.1 in
            record {
              short = short;
              finite = finite;
              above = over most (pos b) above;
              some = loose_stretched b (ap (λ j. is_loose j.class) (sym line) ∙ both.0);
            }
          where
            over : (a b : ℤ) → int_lt a b ≡ true → a <ℤ b
            over a b h = grind (arith, ints)

pub loose_is : (bound : Bound) (s : Sums) (size : ℤ) → IsLoose (looseness_limit bound) s size → is_loosest bound (line_fit s size) ≡ true
unfolding is_loosest
loose_is bound s size is =
    let b = badness_of (size -ℤ s.width) s.stretch in
    let most = looseness_limit bound in
    ap (is_loosest bound) (loose_line most s size is)
    ∙ ap (λ t. t && int_lt most (pos b)) (stretched_loose b is.some) ∙ under most (pos b) is.above
  where
    under : (a b : ℤ) → a <ℤ b → int_lt a b ≡ true
    under a b h = grind (arith, ints)

-- If the stretch of no infinite order is negative, a line that stretches less has none if the other one has none.
finite_part : (s t : Sums) → Covers s t → HasNoNegativeFil t → stretches_forever s ≡ false → stretches_forever t ≡ false
unfolding stretches_forever
finite_part s t covers fils finite =
    let fil : is_zero t.fil ≡ true = none s.fil t.fil covers.fil fils.fil (first (is_zero s.fil) (is_zero s.fill) (is_zero s.filll) finite) in
    let fill : is_zero t.fill ≡ true = none s.fill t.fill covers.fill fils.fill (second (is_zero s.fil) (is_zero s.fill) (is_zero s.filll) finite) in
    let filll : is_zero t.filll ≡ true = none s.filll t.filll covers.filll fils.filll (third (is_zero s.fil) (is_zero s.fill) (is_zero s.filll) finite) in
    all (is_zero t.fil) (is_zero t.fill) (is_zero t.filll) fil fill filll
  where
    none : (a b : ℤ) → b ≤ℤ a → pos 0 ≤ℤ b → is_zero a ≡ true → is_zero b ≡ true
    none (pos zero) (pos zero) less some is = refl
    none (pos zero) (pos (suc b)) less some is = absurd (omega (arith, ints, less))
    none (pos zero) (negsuc b) less some is = absurd (omega (arith, ints, some))
    none (pos (suc a)) b less some is = absurd (cc)
    none (negsuc a) b less some is = absurd (cc)

    first : (a b c : Bool) → not a || (not b || not c) ≡ false → a ≡ true
    first true b c is = refl
    first false b c is = absurd (cc)

    second : (a b c : Bool) → not a || (not b || not c) ≡ false → b ≡ true
    second true true c is = refl
    second true false c is = absurd (cc)
    second false b c is = absurd (cc)

    third : (a b c : Bool) → not a || (not b || not c) ≡ false → c ≡ true
    third true true true is = refl
    third true true false is = absurd (cc)
    third true false c is = absurd (cc)
    third false b c is = absurd (cc)

    all : (a b c : Bool) → a ≡ true → b ≡ true → c ≡ true → not a || (not b || not c) ≡ false
    all true true true is_a is_b is_c = refl
    all false b c is_a is_b is_c = absurd (cc)
    all true false c is_a is_b is_c = absurd (cc)
    all true true false is_a is_b is_c = absurd (cc)

-- A line that another one covers is too loose if that one is.
pub loose_part :
    (most : ℤ) (s t : Sums) (size : ℤ) → Covers s t → HasNoNegativeFil t → IsLoose most s size → IsLoose most t size
loose_part most s t size covers fils is =
    let more = badness_order (size -ℤ s.width) (size -ℤ t.width) s.stretch t.stretch is.short (omega (arith, ints, covers.width)) covers.stretch in
    record {
      short = omega (arith, ints, is.short, covers.width);
      finite = finite_part s t covers fils is.finite;
      above = omega (arith, ints, more, is.above);
      some = omega (arith, more, is.some);
    }

pub loosest_part :
    (bound : Bound) (s t : Sums) (size : ℤ)
    → Covers s t → HasNoNegativeFil t → is_loosest bound (line_fit s size) ≡ true → is_loosest bound (line_fit t size) ≡ true
loosest_part bound s t size covers fils is =
    loose_is bound t size (loose_part (looseness_limit bound) s t size covers fils (loose_means bound s size is))

-- Such a line is not overfull.
pub loosest_fits : (bound : Bound) (s : Sums) (size : ℤ) → is_loosest bound (line_fit s size) ≡ true → (line_fit s size).overfull ≡ false
loosest_fits bound s size is = ap (λ j. j.overfull) (loose_line (looseness_limit bound) s size (loose_means bound s size is))

-- With badness 10000 it is the loosest line.
worst_line : (most : ℤ) (s : Sums) (size : ℤ) → IsLoose most s size → badness_of (size -ℤ s.width) s.stretch ≡ 10000 → line_fit s size ≡ loosest_line
unfolding stretched_class
worst_line most s size is worst = loose_line most s size is ∙ ap stretched worst

-- It costs what the loosest line costs.
pub loosest_costs :
    (params : Params) (bound : Bound) (penalty : ℤ) (before : Fitness) (s : Sums) (size : ℤ) → is_loosest bound (line_fit s size) ≡ true
    → admitted_line params bound penalty before (line_fit s size) ≡ admitted_line params bound penalty before loosest_line
unfolding looseness_limit admitted_line admits
loosest_costs params bound penalty before s size is = cases bound (loose_means bound s size is)
  where
    b : ℕ
    b = badness_of (size -ℤ s.width) s.stretch

    most_badness : pos 0 <ℤ (size -ℤ s.width) → b ≤ 10000
    most_badness short = badness_most (size -ℤ s.width) s.stretch (omega (arith, ints, short))

    worst : (most : ℤ) (bound : Bound) → IsLoose most s size → b ≡ 10000
        → admitted_line params bound penalty before (line_fit s size) ≡ admitted_line params bound penalty before loosest_line
    worst most bound is same = ap (admitted_line params bound penalty before) (worst_line most s size is same)

    cases : (bound : Bound) → IsLoose (looseness_limit bound) s size
        → admitted_line params bound penalty before (line_fit s size) ≡ admitted_line params bound penalty before loosest_line
    cases Any is = worst (pos 9999) Any is (omega (arith, ints, is.above, most_badness is.short))
    cases (AtMost most) is = limit (cases_Bool (int_lt (pos 9999) most))
      where
        refused : (line : LineFit) → most <ℤ pos line.badness → admitted_line params (AtMost most) penalty before line ≡ None
        refused line above =
            let test : int_le (pos line.badness) most ≡ false = under (pos line.badness) most above in
            cond-false (not line.overfull && int_le (pos line.badness) most) _ None (ap (λ t. not line.overfull && t) test ∙ last line.overfull)
          where
            under : (a c : ℤ) → c <ℤ a → int_le a c ≡ false
            under a c h = grind (arith, ints)

            last : (t : Bool) → not t && false ≡ false
            last true = refl
            last false = refl

        limit :
            (int_lt (pos 9999) most ≡ true) ⊎ (int_lt (pos 9999) most ≡ false)
            → admitted_line params (AtMost most) penalty before (line_fit s size) ≡ admitted_line params (AtMost most) penalty before loosest_line
        limit (inl high) =
            let same : cond (int_lt (pos 9999) most) (pos 9999) most ≡ pos 9999 = cond-true (int_lt (pos 9999) most) (pos 9999) most high in
            worst (cond (int_lt (pos 9999) most) (pos 9999) most) (AtMost most) is (omega (arith, ints, is.above, same, most_badness is.short))
        limit (inr low) =
            let same : cond (int_lt (pos 9999) most) (pos 9999) most ≡ most = cond-false (int_lt (pos 9999) most) (pos 9999) most low in
            let above : most <ℤ pos b = omega (arith, ints, is.above, same) in
            let line = loose_line (cond (int_lt (pos 9999) most) (pos 9999) most) s size is in
            ap (admitted_line params (AtMost most) penalty before) line ∙ refused (stretched b) above
            ∙ sym (refused loosest_line (omega (arith, ints, above, most_badness is.short)))
