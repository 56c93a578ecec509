-- The greatest sizes of the items between places, and of those of a line.
use Rattle.std.proofs.Common.{◌≡◌, ◌∙◌, ℕ, zero, suc, ◌+◌, ◌-◌, ◌<◌, ◌≤◌, min, Bool, true, false, List, [], ◌∷◌, ◌++◌, length, length-take, length-drop, take, drop, drop_of_length-le, map, get_or, ◌≢◌, refl, ap, sym, subst, arith, Option, Some, None}
use Rattle.std.specs.Prelude.{ℤ, pos, ◌≤ℤ◌, slice_get}
use Rattle.std.specs.Int.{int_max}
use Rattle.std.specs.List.{filter}
use Rattle.std.proofs.Math.Logic.{◌⊎◌, inl, inr}
use Rattle.std.proofs.lemmas.Int.{ints, clamps}
use Rattle.std.proofs.lemmas.Bool.{cases_Bool, cases_lt, cases_eq, cond-true, cond-false}
use Rattle.std.proofs.lemmas.List.{drop-take}
use Rattle.std.proofs.lemmas.Option.{same_Some, get_or_from_slice_get, slice_get_within}
use Rattle.node_core.specs.declared.tree.Node.{Node}
use Rattle.node_core.specs.declared.tree.Node.TheVariants as nodes
use Rattle.pack_core.specs.Items.{height_above_baseline, depth_below_baseline}
use Rattle.pack_core.specs.Totals.{greatest_of}
use Rattle.break_lines.specs.declared.line_sizes.PlaceSizes.{PlaceSizes}
use Rattle.break_lines.specs.Legal.{is_dropped, is_legal, legal_places, up_to}
use Rattle.break_lines.specs.LineItems.{without_first, lead, first_item_kept}
use Rattle.break_lines.specs.Facts.{begins_at, position_of}
use Rattle.break_lines.specs.Spans.{greatest_between, first_passed, next_place, sizes_at, start_sizes, sizes_of, front_items, first_index}
use Rattle.break_lines.proofs.Entries.{get_at}
use Rattle.break_lines.proofs.Places.{filter_passed, filter_refused, passed_below, passed_rising, place_at, rising_places}
use Rattle.break_lines.proofs.Walks.{rest_is, kept_is_no_place}

-- Greatest values.
pub greatest_low : (size : Node → ℤ) (xs : List Node) → pos 0 ≤ℤ greatest_of size xs
greatest_low size [] = omega (arith, ints)
greatest_low size (x ∷ xs) = omega (arith, ints, clamps, greatest_low size xs)

take_none : (n : ℕ) → take {A = Node} n [] ≡ []
take_none zero = refl
take_none (suc n) = refl

between_none : (size : Node → ℤ) (list : List Node) (i : ℕ) → greatest_between size list i i ≡ pos 0
between_none size list i =
    let n : i - i ≡ 0 = omega arith in
    ap (λ k. greatest_of size (take k (drop i list))) n

pub between_past : (size : Node → ℤ) (list : List Node) (i j : ℕ) → length list ≤ i → greatest_between size list i j ≡ pos 0
between_past size list i j past =
    ap (λ xs. greatest_of size (take (j - i) xs)) (drop_of_length-le list past) ∙ ap (greatest_of size) (take_none (j - i))

between_step :
    (size : Node → ℤ) (list : List Node) (i j : ℕ) (x : Node) → i < length list → x ≡ get_or list i x → i < j
    → greatest_between size list i j ≡ int_max (size x) (greatest_between size list (i + 1) j)
between_step size list i j x within is before =
    let n : j - i ≡ suc (j - (i + 1)) = omega (arith, before) in
    ap (λ k. greatest_of size (take k (drop i list))) n ∙ ap (λ xs. greatest_of size (take (suc (j - (i + 1))) xs)) (rest_is list i x within is)

-- The next place.
next_here : (list : List Node) (i : ℕ) → is_legal list i ≡ true → next_place list i ≡ i
next_here list i legal = cases (length list - i)
  where
    cases : (n : ℕ) → first_passed (is_legal list) n i ≡ i
    cases zero = refl
    cases (suc n) = cond-true (is_legal list i) i (first_passed (is_legal list) n (i + 1)) legal

next_later : (list : List Node) (i : ℕ) → i < length list → is_legal list i ≡ false → next_place list i ≡ next_place list (i + 1)
next_later list i within other =
    let n : length list - i ≡ suc (length list - (i + 1)) = omega (arith, within) in
    ap (λ k. first_passed (is_legal list) k i) n
    ∙ cond-false (is_legal list i) i (first_passed (is_legal list) (length list - (i + 1)) (i + 1)) other

passed_low : (test : ℕ → Bool) (n i : ℕ) → i ≤ first_passed test n i
passed_low test zero i = omega arith
passed_low test (suc n) i = cases (passed_low test n (i + 1)) (cases_Bool (test i))
  where
    cases : i + 1 ≤ first_passed test n (i + 1) → (test i ≡ true) ⊎ (test i ≡ false) → i ≤ first_passed test (suc n) i
    cases rest (inl is) = omega (arith, cond-true (test i) i (first_passed test n (i + 1)) is)
    cases rest (inr is) = omega (arith, rest, cond-false (test i) i (first_passed test n (i + 1)) is)

-- The walk passes an item that is no place.
pub higher :
    (size : Node → ℤ) (list : List Node) (i : ℕ) (x : Node) (before now : ℤ) → i < length list → x ≡ get_or list i x → is_legal list i ≡ false
    → before ≡ greatest_between size list (i + 1) (next_place list (i + 1)) → now ≡ int_max before (size x)
    → now ≡ greatest_between size list i (next_place list i)
higher size list i x before now within is other old more =
    let low = passed_low (is_legal list) (length list - (i + 1)) (i + 1) in
    let step = between_step size list i (next_place list (i + 1)) x within is (omega (arith, low)) in
    let same = ap (greatest_between size list i) (next_later list i within other) in
    omega (arith, ints, clamps, old, more, step, same)

-- An item without a size changes nothing.
pub as_high :
    (size : Node → ℤ) (list : List Node) (i : ℕ) (x : Node) (before : ℤ) → i < length list → x ≡ get_or list i x → is_legal list i ≡ false
    → size x ≡ pos 0 → before ≡ greatest_between size list (i + 1) (next_place list (i + 1)) → before ≡ greatest_between size list i (next_place list i)
as_high size list i x before within is other flat old =
    let low = greatest_low size (take (next_place list (i + 1) - (i + 1)) (drop (i + 1) list)) in
    higher size list i x before before within is other old (omega (arith, ints, clamps, flat, old, low))

-- Between a place and itself there are no items.
pub none_higher : (size : Node → ℤ) (list : List Node) (i : ℕ) → is_legal list i ≡ true → pos 0 ≡ greatest_between size list i (next_place list i)
none_higher size list i legal = sym (ap (greatest_between size list i) (next_here list i legal) ∙ between_none size list i)

-- Items that are dropped have no height and no depth, and those at places are dropped.
pub no_height : (x : Node) → is_dropped x ≡ true → height_above_baseline x ≡ pos 0
unfolding is_dropped
no_height (nodes.Glyph glyph) is = absurd (cc)
no_height (nodes.FontKern width) is = absurd (cc)
no_height (nodes.Kern width) is = refl
no_height (nodes.Glue glue) is = refl
no_height (nodes.Penalty penalty) is = refl
no_height (nodes.Rule rule) is = absurd (cc)
no_height (nodes.Special text) is = absurd (cc)
no_height (nodes.Box shift b) is = absurd (cc)

pub no_depth : (x : Node) → is_dropped x ≡ true → depth_below_baseline x ≡ pos 0
unfolding is_dropped
no_depth (nodes.Glyph glyph) is = absurd (cc)
no_depth (nodes.FontKern width) is = absurd (cc)
no_depth (nodes.Kern width) is = refl
no_depth (nodes.Glue glue) is = refl
no_depth (nodes.Penalty penalty) is = refl
no_depth (nodes.Rule rule) is = absurd (cc)
no_depth (nodes.Special text) is = absurd (cc)
no_depth (nodes.Box shift b) is = absurd (cc)

place_dropped : (list : List Node) (i : ℕ) (x : Node) → i < length list → x ≡ get_or list i x → is_legal list i ≡ true → is_dropped x ≡ true
place_dropped list i x within is legal = cases (cases_Bool (is_dropped x))
  where
    cases : (is_dropped x ≡ true) ⊎ (is_dropped x ≡ false) → is_dropped x ≡ true
    cases (inl dropped) = dropped
    cases (inr kept) = absurd (cc (kept_is_no_place list i x within is kept, legal))

-- The items between an index and a later one, in two parts.
split_by :
    (size : Node → ℤ) (list : List Node) (n i p q : ℕ) → i + n ≡ p → p ≤ q → p ≤ length list
    → greatest_between size list i q ≡ int_max (greatest_between size list i p) (greatest_between size list p q)
split_by size list zero i p q at later within =
    let same : i ≡ p = omega (arith, at) in
    let none : greatest_between size list i p ≡ pos 0 = ap (greatest_between size list i) (sym same) ∙ between_none size list i in
    let all : greatest_between size list i q ≡ greatest_between size list p q = ap (λ k. greatest_between size list k q) same in
    omega (arith, ints, clamps, none, all, greatest_low size (take (q - p) (drop p list)))
split_by size list (suc n) i p q at later within =
    let x = get_at list i (omega (arith, at, within)) in
    let is : x.0 ≡ get_or list i x.0 = sym (get_or_from_slice_get list i x.0 x.0 x.1) in
    let short = between_step size list i p x.0 (omega (arith, at, within)) is (omega (arith, at)) in
    let long = between_step size list i q x.0 (omega (arith, at, within)) is (omega (arith, at, later)) in
    let rest = split_by size list n (i + 1) p q (omega (arith, at)) later within in
    omega (arith, ints, clamps, short, long, rest)

-- A line that goes on over a place.
pub joined :
    (size : Node → ℤ) → ((x : Node) → is_dropped x ≡ true → size x ≡ pos 0) → (list : List Node) (i p q : ℕ) (before more now : ℤ)
    → i ≤ p → p < q → p < length list → is_legal list p ≡ true → before ≡ greatest_between size list i p
    → more ≡ greatest_between size list (p + 1) q → now ≡ int_max before more → now ≡ greatest_between size list i q
joined size flat list i p q before more now low later within legal old next both =
    let x = get_at list p within in
    let is : x.0 ≡ get_or list p x.0 = sym (get_or_from_slice_get list p x.0 x.0 x.1) in
    let none = flat x.0 (place_dropped list p x.0 within is legal) in
    let parts = split_by size list (p - i) i p q (omega (arith, low)) (omega (arith, later)) (omega (arith, within)) in
    let step = between_step size list p q x.0 within is later in
    omega (arith, ints, clamps, old, next, both, none, parts, step, greatest_low size (take (q - (p + 1)) (drop (p + 1) list)))

-- Each number that passes the test is found.
front_get : {A : Type 0} (xs ys : List A) (k : ℕ) (x : A) → slice_get xs k ≡ Some x → slice_get (xs ++ ys) k ≡ Some x
front_get [] ys k x at = absurd (cc)
front_get (y ∷ xs) ys zero x at = at
front_get (y ∷ xs) ys (suc k) x at = front_get xs ys k x at

last_get : {A : Type 0} (xs : List A) (x : A) → slice_get (xs ++ x ∷ []) (length xs) ≡ Some x
last_get [] x = refl
last_get (y ∷ xs) x = last_get xs x

found : (test : ℕ → Bool) (n x : ℕ) → x < n → test x ≡ true → (k : ℕ) × (slice_get (filter test (up_to n)) k ≡ Some x)
found test zero x below passes = absurd (omega (arith, below))
found test (suc n) x below passes = cases (λ before. found test n x before passes) (cases_eq x n) (cases_Bool (test n))
  where
    one : n + 1 ≡ suc n
    one = omega arith

    cases :
        (x < n → (k : ℕ) × (slice_get (filter test (up_to n)) k ≡ Some x)) → (x ≡ n) ⊎ (x ≢ n) → (test n ≡ true) ⊎ (test n ≡ false)
        → (k : ℕ) × (slice_get (filter test (up_to (suc n))) k ≡ Some x)
    cases before (inl here) (inl is) =
        let all : filter test (up_to (suc n)) ≡ filter test (up_to n) ++ n ∷ [] = ap (λ m. filter test (up_to m)) (sym one) ∙ filter_passed test n is in
        (length (filter test (up_to n)), ap (λ xs. slice_get xs (length (filter test (up_to n)))) all ∙ last_get (filter test (up_to n)) n ∙ ap Some (sym here))
    cases before (inl here) (inr is) = absurd (cc (ap test here, passes, is))
    cases before (inr other) (inl is) =
        let all : filter test (up_to (suc n)) ≡ filter test (up_to n) ++ n ∷ [] = ap (λ m. filter test (up_to m)) (sym one) ∙ filter_passed test n is in
        let k = before (omega (arith, below, other)) in
        (k.0, ap (λ xs. slice_get xs k.0) all ∙ front_get (filter test (up_to n)) (n ∷ []) k.0 x k.1)
    cases before (inr other) (inr is) =
        let all : filter test (up_to (suc n)) ≡ filter test (up_to n) = ap (λ m. filter test (up_to m)) (sym one) ∙ filter_refused test n is in
        let k = before (omega (arith, below, other)) in
        (k.0, ap (λ xs. slice_get xs k.0) all ∙ k.1)

-- The next place is the first one that is legal.
skip_by :
    (list : List Node) (n i b : ℕ) → i + n ≡ b → b ≤ length list → is_legal list b ≡ true
    → ((j : ℕ) → i ≤ j → j < b → is_legal list j ≡ false) → next_place list i ≡ b
skip_by list zero i b at within legal none =
    let same : i ≡ b = omega (arith, at) in
    next_here list i (ap (is_legal list) same ∙ legal) ∙ same
skip_by list (suc n) i b at within legal none =
    next_later list i (omega (arith, at, within)) (none i (omega arith) (omega (arith, at)))
    ∙ skip_by list n (i + 1) b (omega (arith, at)) within legal (λ j low below. none j (omega (arith, low)) below)

-- Where a line from a place can begin: after the place.
abbrev pub after : Option ℕ → ℕ
after None = 0
after (Some a) = a + 1

-- The position of a place, and that it is legal.
pub placed : (list : List Node) (n : ℕ) → 0 < n → n ≤ length (legal_places list) → slice_get (legal_places list) (n - 1) ≡ Some (position_of list n)
placed list n some last =
    let x = get_at (legal_places list) (n - 1) (omega (arith, some, last)) in
    let same : n - 1 + 1 ≡ n = omega (arith, some) in
    x.1 ∙ ap Some (sym ((place_at list (n - 1) x.0 x.1).0) ∙ ap (position_of list) same)

pub place_legal :
    (list : List Node) (n : ℕ) → 0 < n → n ≤ length (legal_places list) → (position_of list n ≤ length list) × (is_legal list (position_of list n) ≡ true)
place_legal list n some last =
    let is = passed_below (is_legal list) (length list + 1) (n - 1) (position_of list n) (placed list n some last) in
    (omega (arith, is.0), is.1)

pub after_low : (list : List Node) (a b : ℕ) → a < b → b ≤ length (legal_places list) → after (begins_at list a) ≤ position_of list b
after_low list zero b later last = omega arith
after_low list (suc a) b later last = omega (arith, (rising_places list (suc a) b (omega arith) later last).0)

-- Between a place and the next one there is no other.
none_between :
    (list : List Node) (k j : ℕ) → k + 1 ≤ length (legal_places list) → after (begins_at list k) ≤ j → j < position_of list (k + 1)
    → is_legal list j ≡ false
none_between list k j last low below = cases (cases_Bool (is_legal list j))
  where
    end : slice_get (legal_places list) k ≡ Some (position_of list (k + 1))
    end = let same : k + 1 - 1 ≡ k = omega arith in ap (slice_get (legal_places list)) (sym same) ∙ placed list (k + 1) (omega arith) last

    inside : j < length list + 1
    inside = omega (arith, below, (place_legal list (k + 1) (omega arith) last).0)

    early : (m : ℕ) → slice_get (legal_places list) m ≡ Some j → m < k
    early m at = order (cases_lt m k) (cases_eq m k)
      where
        order : (m < k) ⊎ (k ≤ m) → (m ≡ k) ⊎ (m ≢ k) → m < k
        order (inl before) same = before
        order (inr later) (inl same) = absurd (omega (arith, below, same_Some j (position_of list (k + 1)) (sym at ∙ ap (slice_get (legal_places list)) same ∙ end)))
        order (inr later) (inr other) =
            absurd (omega (arith, below, passed_rising (is_legal list) (length list + 1) k m (position_of list (k + 1)) j (omega (arith, later, other)) end at))

    late : (k : ℕ) → k ≤ length (legal_places list) → after (begins_at list k) ≤ j → (m : ℕ) → slice_get (legal_places list) m ≡ Some j → k ≤ m
    late zero last low m at = omega arith
    late (suc n) last low m at = order (cases_lt m n) (cases_eq m n)
      where
        start : slice_get (legal_places list) n ≡ Some (position_of list (suc n))
        start = let same : suc n - 1 ≡ n = omega arith in ap (slice_get (legal_places list)) (sym same) ∙ placed list (suc n) (omega arith) last

        order : (m < n) ⊎ (n ≤ m) → (m ≡ n) ⊎ (m ≢ n) → suc n ≤ m
        order (inl before) same =
            absurd (omega (arith, low, passed_rising (is_legal list) (length list + 1) m n j (position_of list (suc n)) before at start))
        order (inr later) (inl same) = absurd (omega (arith, low, same_Some j (position_of list (suc n)) (sym at ∙ ap (slice_get (legal_places list)) same ∙ start)))
        order (inr later) (inr other) = omega (arith, later, other)

    cases : (is_legal list j ≡ true) ⊎ (is_legal list j ≡ false) → is_legal list j ≡ false
    cases (inr is) = is
    cases (inl is) =
        let m = found (is_legal list) (length list + 1) j inside is in
        absurd (omega (arith, early m.0 m.1, late k (omega (arith, last)) low m.0 m.1))

pub next_is : (list : List Node) (k : ℕ) → k + 1 ≤ length (legal_places list) → next_place list (after (begins_at list k)) ≡ position_of list (k + 1)
next_is list k last =
    let i = after (begins_at list k) in
    let b = position_of list (k + 1) in
    let low : i ≤ b = after_low list k (k + 1) (omega arith) last in
    let legal = place_legal list (k + 1) (omega arith) last in
    skip_by list (b - i) i b (omega (arith, low)) legal.0 legal.1 (λ j first below. none_between list k j last first below)

-- The sizes of a place, read from the list of all.
mapped : {A B : Type 0} (f : A → B) (xs : List A) (k : ℕ) (x : A) → slice_get xs k ≡ Some x → slice_get (map f xs) k ≡ Some (f x)
mapped f [] k x at = absurd (cc)
mapped f (y ∷ xs) zero x at = ap (λ z. Some (f z)) (same_Some y x at)
mapped f (y ∷ xs) (suc k) x at = mapped f xs k x at

length-map : {A B : Type 0} (f : A → B) (xs : List A) → length (map f xs) ≡ length xs
length-map f [] = refl
length-map f (x ∷ xs) = ap suc (length-map f xs)

pub count_sizes : (list : List Node) → length (sizes_of list) ≡ length (legal_places list) + 1
count_sizes list = omega (arith, length-map (sizes_at list) (legal_places list))

pub sized_place :
    (list : List Node) (n : ℕ) (s : PlaceSizes) → 0 < n → n ≤ length (legal_places list) → slice_get (sizes_of list) n ≡ Some s
    → s ≡ sizes_at list (position_of list n)
sized_place list zero s some last at = absurd (omega (arith, some))
sized_place list (suc n) s some last at =
    let same : suc n - 1 ≡ n = omega arith in
    let here : slice_get (legal_places list) n ≡ Some (position_of list (suc n)) = ap (slice_get (legal_places list)) (sym same) ∙ placed list (suc n) some last in
    same_Some s (sizes_at list (position_of list (suc n))) (sym at ∙ mapped (sizes_at list) (legal_places list) n (position_of list (suc n)) here)

-- What the sizes of a place say: where a line from it begins, and the greatest sizes up to the next place.
pub record IsSized (list : List Node) (k : ℕ) (s : PlaceSizes) : Type 0 where
  pub begin : s.begin ≡ first_item_kept list (begins_at list k)
  pub height : s.height ≡ greatest_between height_above_baseline list (after (begins_at list k)) (position_of list (k + 1))
  pub depth : s.depth ≡ greatest_between depth_below_baseline list (after (begins_at list k)) (position_of list (k + 1))

pub sized : (list : List Node) (k : ℕ) (s : PlaceSizes) → k + 1 ≤ length (legal_places list) → slice_get (sizes_of list) k ≡ Some s → IsSized list k s
sized list zero s last at =
    let is : s ≡ start_sizes list = sym (same_Some (start_sizes list) s at) in
    let next = next_is list 0 last in
    record {
      begin = ap (λ t. t.begin) is;
      height = ap (λ t. t.height) is ∙ ap (greatest_between height_above_baseline list 0) next;
      depth = ap (λ t. t.depth) is ∙ ap (greatest_between depth_below_baseline list 0) next;
    }
sized list (suc n) s last at =
    let is = sized_place list (suc n) s (omega arith) (omega (arith, last)) at in
    let next = next_is list (suc n) last in
    let first = position_of list (suc n) + 1 in
    record {
      begin = ap (λ t. t.begin) is;
      height = ap (λ t. t.height) is ∙ ap (greatest_between height_above_baseline list first) next;
      depth = ap (λ t. t.depth) is ∙ ap (greatest_between depth_below_baseline list first) next;
    }

-- The items that are dropped at the beginning of a line have no size.
flat_front : (size : Node → ℤ) → ((x : Node) → is_dropped x ≡ true → size x ≡ pos 0) → (xs : List Node) → greatest_of size (without_first xs) ≡ greatest_of size xs
flat_front size flat [] = refl
flat_front size flat (x ∷ xs) = cases (flat_front size flat xs) (cases_Bool (is_dropped x))
  where
    cases :
        greatest_of size (without_first xs) ≡ greatest_of size xs → (is_dropped x ≡ true) ⊎ (is_dropped x ≡ false)
        → greatest_of size (without_first (x ∷ xs)) ≡ greatest_of size (x ∷ xs)
    cases before (inl is) =
        let front = ap (greatest_of size) (cond-true (is_dropped x) (without_first xs) (x ∷ xs) is) in
        omega (arith, ints, clamps, front, before, flat x is, greatest_low size xs)
    cases before (inr is) = ap (greatest_of size) (cond-false (is_dropped x) (without_first xs) (x ∷ xs) is)

pub front_greatest :
    (size : Node → ℤ) → ((x : Node) → is_dropped x ≡ true → size x ≡ pos 0) → (list : List Node) (from : Option ℕ) (b : ℕ) → after from ≤ b
    → greatest_between size list (after from) b ≡ greatest_of size (front_items list from b)
front_greatest size flat list None b low =
    let n : b - 0 ≡ b = omega arith in
    ap (λ k. greatest_of size (take k list)) n
front_greatest size flat list (Some a) b low =
    let n : (a + 1) + (b - (a + 1)) ≡ b = omega (arith, low) in
    ap (greatest_of size) (sym (drop-take (a + 1) (b - (a + 1)) list) ∙ ap (λ k. drop (a + 1) (take k list)) n)
    ∙ sym (flat_front size flat (drop (a + 1) (take b list)))

-- Where a line begins.
length_front : (xs : List Node) → length (without_first xs) + lead xs ≡ length xs
length_front [] = refl
length_front (x ∷ xs) = cases (length_front xs) (cases_Bool (is_dropped x))
  where
    cases : length (without_first xs) + lead xs ≡ length xs → (is_dropped x ≡ true) ⊎ (is_dropped x ≡ false) → length (without_first (x ∷ xs)) + lead (x ∷ xs) ≡ length (x ∷ xs)
    cases before (inl is) =
        omega (arith, before, ap length (cond-true (is_dropped x) (without_first xs) (x ∷ xs) is), cond-true (is_dropped x) (lead xs + 1) 0 is)
    cases before (inr is) =
        omega (arith, ap length (cond-false (is_dropped x) (without_first xs) (x ∷ xs) is), cond-false (is_dropped x) (lead xs + 1) 0 is)

lead_take : (n : ℕ) (xs : List Node) → lead (take n xs) ≡ min n (lead xs)
lead_take zero xs = omega arith
lead_take (suc n) [] = omega arith
lead_take (suc n) (x ∷ xs) = cases (lead_take n xs) (cases_Bool (is_dropped x))
  where
    cases : lead (take n xs) ≡ min n (lead xs) → (is_dropped x ≡ true) ⊎ (is_dropped x ≡ false) → lead (x ∷ take n xs) ≡ min (suc n) (lead (x ∷ xs))
    cases before (inl is) = omega (arith, before, cond-true (is_dropped x) (lead (take n xs) + 1) 0 is, cond-true (is_dropped x) (lead xs + 1) 0 is)
    cases before (inr is) = omega (arith, cond-false (is_dropped x) (lead (take n xs) + 1) 0 is, cond-false (is_dropped x) (lead xs + 1) 0 is)

pub begin_index : (list : List Node) (from : Option ℕ) (b : ℕ) → after from ≤ b → b ≤ length list → min (first_item_kept list from) b ≡ first_index list from b
begin_index list None b low within = omega arith
begin_index list (Some a) b low within =
    let n : (a + 1) + (b - (a + 1)) ≡ b = omega (arith, low) in
    let part : drop (a + 1) (take b list) ≡ take (b - (a + 1)) (drop (a + 1) list) =
    ap (λ k. drop (a + 1) (take k list)) (sym n) ∙ drop-take (a + 1) (b - (a + 1)) list in
    omega (
      arith,
      low,
      within,
      length-take b list,
      length-drop (a + 1) (take b list),
      length_front (drop (a + 1) (take b list)),
      ap lead part,
      lead_take (b - (a + 1)) (drop (a + 1) list),
    )
