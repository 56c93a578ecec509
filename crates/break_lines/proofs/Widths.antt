-- Lines of two widths.
use Rattle.std.proofs.Common.{◌≡◌, ◌∙◌, ℕ, ◌+◌, ◌<◌, ◌≤◌, min, Bool, true, false, cond, ◌&&◌, refl, ap, sym, subst, arith}
use Rattle.std.specs.Prelude.{ℤ, pos, neg_ℤ, int_lt, nat_lt, ◌<ℤ◌, ◌≤ℤ◌, ◌-ℤ◌}
use Rattle.std.proofs.Math.Logic.{◌⊎◌, inl, inr}
use Rattle.std.proofs.lemmas.Int.{ints, by_lt_z}
use Rattle.std.proofs.lemmas.Bool.{cases_Bool, cases_lt, cond-true, cond-false}
use Rattle.node_core.specs.declared.params.Params.{Params}
use Rattle.break_lines.specs.declared.sums.Sums.{Sums}
use Rattle.break_lines.specs.declared.cost.LineFit.{LineFit}
use Rattle.break_lines.specs.Costs.{stretches_forever, fit_short, fit_long, line_fit}
use Rattle.break_lines.specs.Sizes.{line_size, greatest_size, fits_of_sums, fit_after}
use Rattle.break_lines.proofs.Bounds.{hangs_over, hangs_not}
use Rattle.break_lines.proofs.Costs.{by_short, by_long}

-- If one of two lines is overfull and the other is not, the test that selects one says whether it is overfull.
either : (t : Bool) (x y : LineFit) → x.overfull ≡ true → y.overfull ≡ false → (cond t x y).overfull ≡ t
either true x y is is_not = is
either false x y is is_not = is_not

neither : (t : Bool) (x y : LineFit) → x.overfull ≡ false → y.overfull ≡ false → (cond t x y).overfull ≡ false
neither true x y is is_not = is
neither false x y is is_not = is_not

-- A line that is too short is not overfull.
short_overfull : (s : Sums) (x : ℤ) → (fit_short s x).overfull ≡ false
unfolding fit_short
short_overfull s x = neither (stretches_forever s) _ _ refl refl

-- A line that is too long is overfull if it cannot shrink by the amount.
long_overfull : (s : Sums) (x : ℤ) → (fit_long s x).overfull ≡ int_lt s.shrink x
unfolding fit_long
long_overfull s x = either (int_lt s.shrink x) _ _ refl refl

lt_is : (x y : ℤ) → int_lt x y ≡ true → x <ℤ y
lt_is x y is = grind (arith, ints)

is_lt : (x y : ℤ) → x <ℤ y → int_lt x y ≡ true
is_lt x y is = grind (arith, ints)

-- The meaning of an overfull line, in numbers.
pub overfull_means : (s : Sums) (size : ℤ) → (line_fit s size).overfull ≡ true → (size ≤ℤ s.width) × (s.shrink <ℤ (s.width -ℤ size))
unfolding line_fit
overfull_means s size is = by_lt_z (pos 0) (size -ℤ s.width) short_case long_case
  where
    short_case : pos 0 <ℤ (size -ℤ s.width) → (size ≤ℤ s.width) × (s.shrink <ℤ (s.width -ℤ size))
    short_case short =
        let no : false ≡ true =
        sym (short_overfull s (size -ℤ s.width)) ∙ ap (λ j. j.overfull) (sym (by_short s (size -ℤ s.width) short)) ∙ is in
        absurd (cc)

    long_case : (size -ℤ s.width) ≤ℤ pos 0 → (size ≤ℤ s.width) × (s.shrink <ℤ (s.width -ℤ size))
    long_case long =
        let t = s.width -ℤ size in
        let same : t ≡ neg_ℤ (size -ℤ s.width) = omega (arith, ints) in
        let test : int_lt s.shrink t ≡ true =
        sym (long_overfull s t) ∙ ap (λ j. j.overfull) (sym (by_long s (size -ℤ s.width) t long same)) ∙ is in
        (omega (arith, ints, long), lt_is s.shrink t test)

pub overfull_is : (s : Sums) (size : ℤ) → size ≤ℤ s.width → s.shrink <ℤ (s.width -ℤ size) → (line_fit s size).overfull ≡ true
unfolding line_fit
overfull_is s size wide long =
    let t = s.width -ℤ size in
    let same : t ≡ neg_ℤ (size -ℤ s.width) = omega (arith, ints) in
    let low : (size -ℤ s.width) ≤ℤ pos 0 = omega (arith, ints, wide) in
    ap (λ j. j.overfull) (by_long s (size -ℤ s.width) t low same) ∙ long_overfull s t ∙ is_lt s.shrink t long

-- An overfull line is overfull at each lesser width.
pub overfull_narrower : (s : Sums) (size less : ℤ) → less ≤ℤ size → (line_fit s size).overfull ≡ true → (line_fit s less).overfull ≡ true
overfull_narrower s size less is_less is =
    let m = overfull_means s size is in
    overfull_is s less (omega (arith, ints, m.0, is_less)) (omega (arith, ints, m.1, is_less))

-- Without first lines the width is hsize.
pub size_none : (params : Params) (lines : ℕ) → params.first_lines ≡ 0 → line_size params lines ≡ params.hsize
unfolding line_size
size_none params lines none =
    let no : nat_lt lines params.first_lines ≡ false = grind (arith) in
    cond-false (nat_lt lines params.first_lines) params.first_size params.hsize no

pub greatest_none : (params : Params) → params.first_lines ≡ 0 → greatest_size params ≡ params.hsize
unfolding greatest_size
greatest_none params none =
    let no : nat_lt 0 params.first_lines ≡ false = grind (arith) in
    cond-false (nat_lt 0 params.first_lines && int_lt params.hsize params.first_size) params.first_size params.hsize
    (ap (λ t. t && int_lt params.hsize params.first_size) no)

-- A first line has the width firstsize.
pub size_some : (params : Params) (lines : ℕ) → nat_lt lines params.first_lines ≡ true → line_size params lines ≡ params.first_size
unfolding line_size
size_some params lines is = cond-true (nat_lt lines params.first_lines) params.first_size params.hsize is

pub size_rest : (params : Params) (lines : ℕ) → nat_lt lines params.first_lines ≡ false → line_size params lines ≡ params.hsize
unfolding line_size
size_rest params lines is = cond-false (nat_lt lines params.first_lines) params.first_size params.hsize is

some_lines : (params : Params) (lines : ℕ) → nat_lt lines params.first_lines ≡ true → nat_lt 0 params.first_lines ≡ true
some_lines params lines is = grind (arith)

-- The greatest width is one of the two.
greatest_cases :
    (params : Params) → nat_lt 0 params.first_lines ≡ true
    → ((greatest_size params ≡ params.first_size) × (params.hsize ≤ℤ params.first_size)) ⊎ ((greatest_size params ≡ params.hsize) × (params.first_size ≤ℤ params.hsize))
unfolding greatest_size
greatest_cases params some = cases (cases_Bool (int_lt params.hsize params.first_size))
  where
    test : Bool
    test = nat_lt 0 params.first_lines && int_lt params.hsize params.first_size

    cases :
        (int_lt params.hsize params.first_size ≡ true) ⊎ (int_lt params.hsize params.first_size ≡ false)
        → ((cond test params.first_size params.hsize ≡ params.first_size) × (params.hsize ≤ℤ params.first_size))
        ⊎ ((cond test params.first_size params.hsize ≡ params.hsize) × (params.first_size ≤ℤ params.hsize))
    cases (inl is) =
        let both : test ≡ true = ap (λ t. t && int_lt params.hsize params.first_size) some ∙ is in
        let less = lt_is params.hsize params.first_size is in
        inl (cond-true test params.first_size params.hsize both, omega (arith, ints, less))
    cases (inr is) =
        let both : test ≡ false = ap (λ t. t && int_lt params.hsize params.first_size) some ∙ is in
        inr (cond-false test params.first_size params.hsize both, grind (arith, ints))

-- No line is wider than the greatest width.
pub size_most : (params : Params) (lines : ℕ) → line_size params lines ≤ℤ greatest_size params
size_most params lines = cases (cases_Bool (nat_lt 0 params.first_lines)) (cases_Bool (nat_lt lines params.first_lines))
  where
    with :
        (nat_lt lines params.first_lines ≡ true) ⊎ (nat_lt lines params.first_lines ≡ false)
        → ((greatest_size params ≡ params.first_size) × (params.hsize ≤ℤ params.first_size)) ⊎ ((greatest_size params ≡ params.hsize) × (params.first_size ≤ℤ params.hsize))
        → line_size params lines ≤ℤ greatest_size params
    with (inl is) (inl g) = let e = size_some params lines is in omega (arith, ints, e, g.0)
    with (inl is) (inr g) = let e = size_some params lines is in omega (arith, ints, e, g.0, g.1)
    with (inr is) (inl g) = let e = size_rest params lines is in omega (arith, ints, e, g.0, g.1)
    with (inr is) (inr g) = let e = size_rest params lines is in omega (arith, ints, e, g.0)

    cases :
        (nat_lt 0 params.first_lines ≡ true) ⊎ (nat_lt 0 params.first_lines ≡ false)
        → (nat_lt lines params.first_lines ≡ true) ⊎ (nat_lt lines params.first_lines ≡ false) → line_size params lines ≤ℤ greatest_size params
    cases (inl some) which = with which (greatest_cases params some)
    cases (inr not_any) which =
        let none : params.first_lines ≡ 0 = grind (arith) in
        let e = size_none params lines none in
        let f = greatest_none params none in
        omega (arith, ints, e, f)

pub overfull_each :
    (params : Params) (sums : Sums) (lines : ℕ)
    → (line_fit sums (greatest_size params)).overfull ≡ true → (line_fit sums (line_size params lines)).overfull ≡ true
overfull_each params sums lines is = overfull_narrower sums (greatest_size params) (line_size params lines) (size_most params lines) is

-- One judgement holds for each number of lines.
pub after_is :
    (params : Params) (sums : Sums) (lines : ℕ)
    → fit_after params.first_lines lines (fits_of_sums params sums) ≡ line_fit sums (line_size params lines)
unfolding fits_of_sums
after_is params sums lines = cases (cases_Bool (nat_lt lines params.first_lines))
  where
    j : LineFit
    j = line_fit sums (line_size params 0)

    k : LineFit
    k = line_fit sums params.hsize

    cases :
        (nat_lt lines params.first_lines ≡ true) ⊎ (nat_lt lines params.first_lines ≡ false)
        → cond (nat_lt lines params.first_lines) (line_fit sums (line_size params 0)) (line_fit sums params.hsize) ≡ line_fit sums (line_size params lines)
    cases (inl is) =
        cond-true (nat_lt lines params.first_lines) j k is
        ∙ ap (line_fit sums) (size_some params 0 (some_lines params lines is) ∙ sym (size_some params lines is))
    cases (inr is) = cond-false (nat_lt lines params.first_lines) j k is ∙ ap (line_fit sums) (sym (size_rest params lines is))

-- Both parts of a judgement are overfull if the line is overfull at the greatest width.
and_when : (x y z : Bool) → (x ≡ true → y ≡ true → z ≡ true) → (z ≡ true → (x ≡ true) × (y ≡ true)) → (x && y) ≡ z
and_when true true z to from = sym (to refl refl)
and_when true false true to from = absurd (let h = (from refl).1 in cc)
and_when true false false to from = refl
and_when false y true to from = absurd (let h = (from refl).0 in cc)
and_when false y false to from = refl

pub both_overfull :
    (params : Params) (sums : Sums)
    → ((fits_of_sums params sums).first.overfull && (fits_of_sums params sums).rest.overfull) ≡ (line_fit sums (greatest_size params)).overfull
unfolding fits_of_sums
both_overfull params sums =
    and_when (line_fit sums (line_size params 0)).overfull (line_fit sums params.hsize).overfull (line_fit sums (greatest_size params)).overfull to from
  where
    to_by :
        (nat_lt 0 params.first_lines ≡ true) ⊎ (nat_lt 0 params.first_lines ≡ false)
        → (line_fit sums (line_size params 0)).overfull ≡ true → (line_fit sums params.hsize).overfull ≡ true → (line_fit sums (greatest_size params)).overfull ≡ true
    to_by (inr not_any) first rest =
        let none : params.first_lines ≡ 0 = grind (arith) in
        subst (λ x. (line_fit sums x).overfull ≡ true) (sym (greatest_none params none)) rest
    to_by (inl some) first rest = which (greatest_cases params some)
      where
        which :
            ((greatest_size params ≡ params.first_size) × (params.hsize ≤ℤ params.first_size)) ⊎ ((greatest_size params ≡ params.hsize) × (params.first_size ≤ℤ params.hsize))
            → (line_fit sums (greatest_size params)).overfull ≡ true
        which (inl g) = subst (λ x. (line_fit sums x).overfull ≡ true) (size_some params 0 some ∙ sym g.0) first
        which (inr g) = subst (λ x. (line_fit sums x).overfull ≡ true) (sym g.0) rest

    to : (line_fit sums (line_size params 0)).overfull ≡ true → (line_fit sums params.hsize).overfull ≡ true → (line_fit sums (greatest_size params)).overfull ≡ true
    to first rest = to_by (cases_Bool (nat_lt 0 params.first_lines)) first rest

    hsize_most : params.hsize ≤ℤ greatest_size params
    hsize_most =
        let no : nat_lt params.first_lines params.first_lines ≡ false = grind (arith) in
        subst (λ x. x ≤ℤ greatest_size params) (size_rest params params.first_lines no) (size_most params params.first_lines)

    from : (line_fit sums (greatest_size params)).overfull ≡ true → ((line_fit sums (line_size params 0)).overfull ≡ true) × ((line_fit sums params.hsize).overfull ≡ true)
    from is = (overfull_each params sums 0 is, overfull_narrower sums (greatest_size params) params.hsize hsize_most is)

-- The overhang of a line that a test selects.
first_overhang : (b : Bool) (x y : LineFit) → b ≡ true → (cond b x y).overhang ≡ x.overhang
first_overhang true x y h = refl
first_overhang false x y h = absurd (cc)

long_overhang : (s : Sums) (x : ℤ) → int_lt s.shrink x ≡ true → (fit_long s x).overhang ≡ x -ℤ s.shrink
unfolding fit_long
long_overhang s x h = first_overhang (int_lt s.shrink x) _ _ h

-- The overhang of an overfull line.
pub overhang_is : (s : Sums) (size : ℤ) → (line_fit s size).overfull ≡ true → (line_fit s size).overhang ≡ (s.width -ℤ size) -ℤ s.shrink
unfolding line_fit
overhang_is s size is =
    let m = overfull_means s size is in
    let t = s.width -ℤ size in
    let same : t ≡ neg_ℤ (size -ℤ s.width) = omega (arith, ints) in
    let low : (size -ℤ s.width) ≤ℤ pos 0 = omega (arith, ints, m.0) in
    ap (λ j. j.overhang) (by_long s (size -ℤ s.width) t low same) ∙ long_overhang s t (is_lt s.shrink t m.1)

-- A greater width never gives a greater overhang.
pub overhang_less : (s : Sums) (size less : ℤ) → less ≤ℤ size → (line_fit s size).overhang ≤ℤ (line_fit s less).overhang
overhang_less s size less is_less = cases (cases_Bool (line_fit s size).overfull) (cases_Bool (line_fit s less).overfull)
  where
    cases :
        ((line_fit s size).overfull ≡ true) ⊎ ((line_fit s size).overfull ≡ false) → ((line_fit s less).overfull ≡ true) ⊎ ((line_fit s less).overfull ≡ false)
        → (line_fit s size).overhang ≤ℤ (line_fit s less).overhang
    cases (inl over) other =
        let a = overhang_is s size over in
        let b = overhang_is s less (overfull_narrower s size less is_less over) in
        omega (arith, ints, a, b, is_less)
    cases (inr fits) (inl over) =
        let a = hangs_not s size fits in
        let b = hangs_over s less over in
        omega (arith, ints, a, b)
    cases (inr fits) (inr fits_too) =
        let a = hangs_not s size fits in
        let b = hangs_not s less fits_too in
        omega (arith, ints, a, b)

-- After the lines that are counted, a number of further lines gives the same width as that number after all lines.
pub size_counted : (params : Params) (lines more : ℕ) → line_size params (min (lines + 1) params.first_lines + more) ≡ line_size params ((lines + 1) + more)
size_counted params lines more = cases (cases_lt (lines + 1) params.first_lines)
  where
    cases :
        (lines + 1 < params.first_lines) ⊎ (params.first_lines ≤ lines + 1)
        → line_size params (min (lines + 1) params.first_lines + more) ≡ line_size params ((lines + 1) + more)
    cases (inl less) =
        let n : min (lines + 1) params.first_lines ≡ lines + 1 = omega arith in
        ap (λ k. line_size params (k + more)) n
    cases (inr most) =
        let n : min (lines + 1) params.first_lines ≡ params.first_lines = omega arith in
        let no_first : nat_lt (params.first_lines + more) params.first_lines ≡ false = grind (arith) in
        let not_first : nat_lt ((lines + 1) + more) params.first_lines ≡ false = grind (arith) in
        ap (λ k. line_size params (k + more)) n ∙ size_rest params (params.first_lines + more) no_first
        ∙ sym (size_rest params ((lines + 1) + more) not_first)
