-- Long lines, by the values that are stored with each group.
use Rattle.std.proofs.Common.{◌≡◌, ◌∙◌, ℕ, zero, suc, ◌+◌, ◌-◌, ◌<◌, ◌≤◌, Bool, true, false, ◌&&◌, refl, ap, arith, Option, Some, None}
use Rattle.std.specs.Prelude.{ℤ, nat_lt, int_lt, ◌<ℤ◌}
use Rattle.std.specs.Option.{option_map}
use Rattle.std.proofs.lemmas.Int.{ints}
use Rattle.node_core.specs.declared.params.Params.{Params}
use Rattle.break_lines.specs.Sizes.{least_width}
use Rattle.break_lines.specs.Facts.{Facts}
use Rattle.break_lines.specs.Steady.{IsSteady}
use Rattle.break_lines.proofs.Divided.{least_rises}
use Rattle.break_core.specs.Trials.{is_overfull}
use Rattle.break_core.specs.Private.LeftOut.{first_over, is_long, over_before, is_more, kept_over}
use Rattle.break_core.proofs.Detours.{long_means}

-- The first place stays the first.
first_here :
    (facts : Facts) (params : Params) (a b m : ℕ) → first_over facts params a b ≡ Some m → first_over facts params a (suc b) ≡ Some m
unfolding first_over
first_here facts params a b m some = ap (λ x. kept_over x (nat_lt a b && is_overfull facts params a b) b) some

first_next :
    (facts : Facts) (params : Params) (a b : ℕ)
    → first_over facts params a (suc b) ≡ kept_over (first_over facts params a b) (nat_lt a b && is_overfull facts params a b) b
unfolding first_over
first_next facts params a b = refl

first_stays :
    (facts : Facts) (params : Params) (a b n m : ℕ) → first_over facts params a b ≡ Some m → first_over facts params a (b + n) ≡ Some m
first_stays facts params a b zero m some =
    let same : b + 0 ≡ b = omega arith in
    ap (first_over facts params a) same ∙ some
first_stays facts params a b (suc n) m some =
    let same : b + suc n ≡ suc (b + n) = omega arith in
    ap (first_over facts params a) same ∙ first_here facts params a (b + n) m (first_stays facts params a b n m some)

first_later :
    (facts : Facts) (params : Params) (a b l m : ℕ) → first_over facts params a b ≡ Some m → b ≤ l → first_over facts params a l ≡ Some m
first_later facts params a b l m some later =
    let same : l ≡ b + (l - b) = omega arith in
    ap (first_over facts params a) same ∙ first_stays facts params a b (l - b) m some

-- No place is before the start of a line.
first_start : (facts : Facts) (params : Params) (a b : ℕ) → b ≤ a + 1 → first_over facts params a b ≡ None
unfolding first_over
first_start facts params a zero low = refl
first_start facts params a (suc b) low =
    let before = first_start facts params a b (omega arith) in
    let no : nat_lt a b ≡ false = grind arith in
    ap (λ x. kept_over x (nat_lt a b && is_overfull facts params a b) b) before ∙ ap (λ t. kept_over None (t && is_overfull facts params a b) b) no

-- The test with the stored value.
pub long_is : (facts : Facts) (params : Params) (a b : ℕ) → is_long facts params a b ≡ is_more (over_before facts params a b) (least_width (facts.sums a b))
unfolding is_long
long_is facts params a b = refl

pub over_start : (facts : Facts) (params : Params) (a : ℕ) → over_before facts params a (a + 1) ≡ None
over_start facts params a =
    ap (option_map (λ place. least_width (facts.sums a place))) (first_start facts params a (a + 1) (omega arith))

pub over_next :
    (facts : Facts) (params : Params) (a b : ℕ) → a < b
    → over_before facts params a (b + 1) ≡ kept_over (over_before facts params a b) (is_overfull facts params a b) (least_width (facts.sums a b))
over_next facts params a b later =
    ap (over_before facts params a) one
    ∙ ap (option_map (λ place. least_width (facts.sums a place))) (first_next facts params a b ∙ ap (λ t. kept_over (first_over facts params a b) t b) here)
    ∙ width_kept (first_over facts params a b) (is_overfull facts params a b)
  where
    one : b + 1 ≡ suc b
    one = omega arith

    here : (nat_lt a b && is_overfull facts params a b) ≡ is_overfull facts params a b
    here =
        let less : nat_lt a b ≡ true = grind arith in
        ap (λ t. t && is_overfull facts params a b) less

    width_kept :
        (x : Option ℕ) (t : Bool)
        → option_map (λ place. least_width (facts.sums a place)) (kept_over x t b)
        ≡ kept_over (option_map (λ place. least_width (facts.sums a place)) x) t (least_width (facts.sums a b))
    width_kept (Some m) t = refl
    width_kept None true = refl
    width_kept None false = refl

-- The condition under which a line is long.
long_when :
    (facts : Facts) (params : Params) (a b m : ℕ)
    → first_over facts params a b ≡ Some m → least_width (facts.sums a m) <ℤ least_width (facts.sums a b) → is_long facts params a b ≡ true
unfolding is_long
long_when facts params a b m some more =
    ap (λ x. is_more (option_map (λ place. least_width (facts.sums a place)) x) (least_width (facts.sums a b))) some
    ∙ lower (least_width (facts.sums a m)) (least_width (facts.sums a b)) more
  where
    lower : (x y : ℤ) → x <ℤ y → int_lt x y ≡ true
    lower x y h = grind (arith, ints)

-- In a steady paragraph, if a line is long, so are the lines to later places.
pub long_stays :
    (facts : Facts) (params : Params) (a b l : ℕ) → IsSteady facts → a < b → b ≤ l → l ≤ facts.places → is_long facts params a b ≡ true
    → is_long facts params a l ≡ true
long_stays facts params a b l steady earlier later within is =
    let means = long_means facts params a b is in
    let rises = least_rises facts a b l steady earlier later within in
    let longer : least_width (facts.sums a means.0) <ℤ least_width (facts.sums a b) = means.2 in
    long_when facts params a l means.0 (first_later facts params a b l means.0 means.1 later) (omega (arith, ints, rises, longer))
