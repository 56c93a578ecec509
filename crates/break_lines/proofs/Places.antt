-- Legal places, counted from the start of a list.
use Rattle.std.proofs.Common.{◌≡◌, ◌∙◌, ℕ, zero, suc, ◌+◌, ◌<◌, ◌≤◌, Bool, true, false, cond, List, [], ◌∷◌, ◌++◌, ◌-◌, length, length-append, drop, get_or, drop-cons, drop_of_length-le, refl, ap, sym, subst, arith, Option, Some, None}
use Rattle.std.specs.Prelude.{ℤ, pos, int_lt, ◌<ℤ◌, slice_get}
use Rattle.std.proofs.lemmas.Int.{ints}
use Rattle.std.proofs.Math.Logic.{◌⊎◌, inl, inr}
use Rattle.std.proofs.lemmas.Option.{same_Some, slice_get_within, get_or_from_slice_get}
use Rattle.break_lines.proofs.Entries.{get_at, get_cases}
use Rattle.std.specs.List.{filter}
use Rattle.std.proofs.lemmas.List.Elements.{filter-append}
use Rattle.std.proofs.lemmas.Bool.{cases_Bool, cond-true, cond-false}
use Rattle.node_core.specs.declared.tree.Node.{Node}
use Rattle.node_core.specs.declared.tree.Node.TheVariants as nodes
use Rattle.break_lines.specs.Legal.{is_dropped, up_to, is_legal, is_break, node_before, legal_places, penalty_of}
use Rattle.break_lines.specs.Facts.{position_of, begins_at}
use Rattle.break_lines.specs.LineItems.{BeginsBefore}
use Rattle.break_lines.specs.LineItems.{lead}

-- One more number is added if it passes the test.
pub filter_up : (test : ℕ → Bool) (n : ℕ) → filter test (up_to (n + 1)) ≡ filter test (up_to n) ++ cond (test n) (n ∷ []) []
filter_up test n =
    let one : n + 1 ≡ suc n = omega arith in
    ap (λ k. filter test (up_to k)) one ∙ filter-append test (up_to n) (n ∷ [])

pub filter_passed : (test : ℕ → Bool) (n : ℕ) → test n ≡ true → filter test (up_to (n + 1)) ≡ filter test (up_to n) ++ n ∷ []
filter_passed test n is = filter_up test n ∙ ap (λ b. filter test (up_to n) ++ cond b (n ∷ []) []) is

pub filter_refused : (test : ℕ → Bool) (n : ℕ) → test n ≡ false → filter test (up_to (n + 1)) ≡ filter test (up_to n)
filter_refused test n is = filter_up test n ∙ ap (λ b. filter test (up_to n) ++ cond b (n ∷ []) []) is ∙ all (filter test (up_to n))
  where
    all : (xs : List ℕ) → xs ++ [] ≡ xs
    all [] = refl
    all (x ∷ xs) = ap (λ ys. x ∷ ys) (all xs)

pub count_passed : (test : ℕ → Bool) (n : ℕ) → test n ≡ true → length (filter test (up_to (n + 1))) ≡ length (filter test (up_to n)) + 1
count_passed test n is = ap length (filter_passed test n is) ∙ length-append (filter test (up_to n)) (n ∷ [])

pub count_refused : (test : ℕ → Bool) (n : ℕ) → test n ≡ false → length (filter test (up_to (n + 1))) ≡ length (filter test (up_to n))
count_refused test n is = ap length (filter_refused test n is)

-- The dropped items at the beginning, if the first item is dropped and if it is not.
pub lead_dropped : (list : List Node) (i : ℕ) (x : Node) → i < length list → x ≡ get_or list i x → is_dropped x ≡ true → lead (drop i list) ≡ lead (drop (i + 1) list) + 1
lead_dropped list i x within is dropped =
    let one : i + 1 ≡ suc i = omega arith in
    let rest : drop i list ≡ get_or list i x ∷ drop (suc i) list = drop-cons list i x within in
    let same : drop i list ≡ x ∷ drop (i + 1) list = rest ∙ ap (λ y. y ∷ drop (suc i) list) (sym is) ∙ ap (λ n. x ∷ drop n list) (sym one) in
    ap lead same ∙ cond-true (is_dropped x) (lead (drop (i + 1) list) + 1) 0 dropped

pub lead_kept : (list : List Node) (i : ℕ) (x : Node) → i < length list → x ≡ get_or list i x → is_dropped x ≡ false → lead (drop i list) ≡ 0
lead_kept list i x within is kept =
    let rest : drop i list ≡ get_or list i x ∷ drop (suc i) list = drop-cons list i x within in
    let same : drop i list ≡ x ∷ drop (suc i) list = rest ∙ ap (λ y. y ∷ drop (suc i) list) (sym is) in
    ap lead same ∙ cond-false (is_dropped x) (lead (drop (suc i) list) + 1) 0 kept

pub lead_end : (list : List Node) (i : ℕ) → length list ≤ i → lead (drop i list) ≡ 0
lead_end list i past = ap lead (drop_of_length-le list past)

-- The places that pass the test are below the end, and each is before those after it.
pub passed_below : (test : ℕ → Bool) (n k x : ℕ) → slice_get (filter test (up_to n)) k ≡ Some x → (x < n) × (test x ≡ true)
passed_below test zero k x at = absurd (cc)
passed_below test (suc n) k x at = cases (λ j here. passed_below test n j x here) (cases_Bool (test n))
  where
    one : n + 1 ≡ suc n
    one = omega arith

    there : (y : ℕ) (j : ℕ) → slice_get (y ∷ []) j ≡ Some x → y ≡ x
    there y zero is = same_Some y x is
    there y (suc j) is = absurd (cc)

    last :
        ((j : ℕ) → slice_get (filter test (up_to n)) j ≡ Some x → (x < n) × (test x ≡ true)) → test n ≡ true
        → (slice_get (filter test (up_to n)) k ≡ Some x) ⊎ ((j : ℕ) × (k ≡ length (filter test (up_to n)) + j) × (slice_get (n ∷ []) j ≡ Some x))
        → (x < suc n) × (test x ≡ true)
    last before passes (inl here) = let old = before k here in (omega (arith, old.0), old.1)
    last before passes (inr after) =
        let same : n ≡ x = there n after.0 after.2 in
        (omega (arith, same), ap test (sym same) ∙ passes)

    cases :
        ((j : ℕ) → slice_get (filter test (up_to n)) j ≡ Some x → (x < n) × (test x ≡ true)) → (test n ≡ true) ⊎ (test n ≡ false)
        → (x < suc n) × (test x ≡ true)
    cases before (inl passes) =
        let all : filter test (up_to (suc n)) ≡ filter test (up_to n) ++ n ∷ [] = ap (λ m. filter test (up_to m)) (sym one) ∙ filter_passed test n passes in
        last before passes (get_cases (filter test (up_to n)) (n ∷ []) k x (ap (λ xs. slice_get xs k) (sym all) ∙ at))
    cases before (inr fails) =
        let all : filter test (up_to (suc n)) ≡ filter test (up_to n) = ap (λ m. filter test (up_to m)) (sym one) ∙ filter_refused test n fails in
        let old = before k (ap (λ xs. slice_get xs k) (sym all) ∙ at) in
        (omega (arith, old.0), old.1)

pub passed_rising :
    (test : ℕ → Bool) (n i k x y : ℕ)
    → i < k → slice_get (filter test (up_to n)) i ≡ Some x → slice_get (filter test (up_to n)) k ≡ Some y → x < y
passed_rising test zero i k x y earlier at there = absurd (cc)
passed_rising test (suc n) i k x y earlier at there = cases (λ a b. passed_rising test n i k x y earlier a b) (cases_Bool (test n))
  where
    one : n + 1 ≡ suc n
    one = omega arith

    single : (z j w : ℕ) → slice_get (z ∷ []) j ≡ Some w → (z ≡ w) × (j ≡ 0)
    single z zero w is = (same_Some z w is, refl)
    single z (suc j) w is = absurd (cc)

    last :
        (slice_get (filter test (up_to n)) i ≡ Some x → slice_get (filter test (up_to n)) k ≡ Some y → x < y)
        → (slice_get (filter test (up_to n)) i ≡ Some x) ⊎ ((j : ℕ) × (i ≡ length (filter test (up_to n)) + j) × (slice_get (n ∷ []) j ≡ Some x))
        → (slice_get (filter test (up_to n)) k ≡ Some y) ⊎ ((j : ℕ) × (k ≡ length (filter test (up_to n)) + j) × (slice_get (n ∷ []) j ≡ Some y))
        → x < y
    last before (inl a) (inl b) = before a b
    last before (inl a) (inr b) = omega (arith, (passed_below test n i x a).0, (single n b.0 y b.2).0)
    last before (inr a) (inl b) = absurd (omega (arith, a.1, slice_get_within (filter test (up_to n)) k y b))
    last before (inr a) (inr b) = absurd (omega (arith, a.1, b.1, (single n a.0 x a.2).1, (single n b.0 y b.2).1))

    cases :
        (slice_get (filter test (up_to n)) i ≡ Some x → slice_get (filter test (up_to n)) k ≡ Some y → x < y)
        → (test n ≡ true) ⊎ (test n ≡ false) → x < y
    cases before (inl passes) =
        let all : filter test (up_to (suc n)) ≡ filter test (up_to n) ++ n ∷ [] = ap (λ m. filter test (up_to m)) (sym one) ∙ filter_passed test n passes in
        last before (get_cases (filter test (up_to n)) (n ∷ []) i x (ap (λ xs. slice_get xs i) (sym all) ∙ at))
        (get_cases (filter test (up_to n)) (n ∷ []) k y (ap (λ xs. slice_get xs k) (sym all) ∙ there))
    cases before (inr fails) =
        let all : filter test (up_to (suc n)) ≡ filter test (up_to n) = ap (λ m. filter test (up_to m)) (sym one) ∙ filter_refused test n fails in
        before (ap (λ xs. slice_get xs i) (sym all) ∙ at) (ap (λ xs. slice_get xs k) (sym all) ∙ there)

-- A place of a list, which is numbered from 1.
pub place_at : (list : List Node) (n x : ℕ) → slice_get (legal_places list) n ≡ Some x → (position_of list (n + 1) ≡ x) × (x ≤ length list)
unfolding position_of
place_at list n x at =
    let same : n + 1 - 1 ≡ n = omega arith in (
      ap (λ k. get_or (legal_places list) k 0) same ∙ get_or_from_slice_get (legal_places list) n x 0 at,
      omega (arith, (passed_below (is_legal list) (length list + 1) n x at).0),
    )

-- The position of each place is before that of a later one.
pub rising_places :
    (list : List Node) (a b : ℕ) → 0 < a → a < b → b ≤ length (legal_places list)
    → (position_of list a < position_of list b) × (position_of list b ≤ length list)
rising_places list a b some earlier last =
    let x = get_at (legal_places list) (a - 1) (omega arith) in
    let y = get_at (legal_places list) (b - 1) (omega arith) in
    let px = place_at list (a - 1) x.0 x.1 in
    let py = place_at list (b - 1) y.0 y.1 in
    let a_is : a - 1 + 1 ≡ a = omega arith in
    let b_is : b - 1 + 1 ≡ b = omega arith in
    let low = passed_rising (is_legal list) (length list + 1) (a - 1) (b - 1) x.0 y.0 (omega arith) x.1 y.1 in
    (omega (arith, low, px.0, py.0, ap (position_of list) a_is, ap (position_of list) b_is), omega (arith, py.0, py.1, ap (position_of list) b_is))

pub begins_some : (list : List Node) (n : ℕ) → 0 < n → begins_at list n ≡ Some (position_of list n)
begins_some list zero some = absurd (omega arith)
begins_some list (suc n) some = refl

pub begins_none : (list : List Node) (n : ℕ) → n ≡ 0 → begins_at list n ≡ None
begins_none list n none = ap (begins_at list) none

pub begins_before : (list : List Node) (a b : ℕ) → a < b → b ≤ length (legal_places list) → BeginsBefore (begins_at list a) (position_of list b)
begins_before list zero b earlier last = tt
begins_before list (suc a) b earlier last = (rising_places list (suc a) b (omega arith) earlier last).0

-- The penalty of a break is below 10000.
break_penalty : (before here after : Option Node) → is_break before here after ≡ true → penalty_of here <ℤ pos 10000
unfolding is_break penalty_of
break_penalty before None after is = omega (arith, ints)
break_penalty before (Some (nodes.Glue glue)) after is = omega (arith, ints)
break_penalty before (Some (nodes.Kern width)) after is = omega (arith, ints)
break_penalty before (Some (nodes.Penalty penalty)) after is = test_says penalty is
  where
    test_says : (p : ℤ) → int_lt p (pos 10000) ≡ true → p <ℤ pos 10000
    test_says p h = grind (arith, ints)
break_penalty before (Some (nodes.Glyph glyph)) after is = omega (arith, ints)
break_penalty before (Some (nodes.FontKern width)) after is = omega (arith, ints)
break_penalty before (Some (nodes.Rule rule)) after is = omega (arith, ints)
break_penalty before (Some (nodes.Special text)) after is = omega (arith, ints)
break_penalty before (Some (nodes.Box shift b)) after is = omega (arith, ints)

pub place_penalty : (list : List Node) (n : ℕ) → 0 < n → n ≤ length (legal_places list) → penalty_of (slice_get list (position_of list n)) <ℤ pos 10000
unfolding is_legal
place_penalty list n some last =
    let x = get_at (legal_places list) (n - 1) (omega arith) in
    let p = place_at list (n - 1) x.0 x.1 in
    let same : n - 1 + 1 ≡ n = omega arith in
    let is : is_legal list x.0 ≡ true = (passed_below (is_legal list) (length list + 1) (n - 1) x.0 x.1).1 in
    let at : position_of list n ≡ x.0 = ap (position_of list) (sym same) ∙ p.0 in
    subst (λ k. penalty_of (slice_get list k) <ℤ pos 10000) (sym at) (break_penalty (node_before list x.0) (slice_get list x.0) (slice_get list (x.0 + 1)) is)
