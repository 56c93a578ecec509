-- A mask is put into one more row.
use Rattle.std.proofs.Common.{◌≡◌, ℕ, ◌+◌, ◌*◌, ◌/◌, ◌%◌, ◌<◌, ◌≤◌, Bool, true, false, ◌&&◌, ◌||◌, eqb, ltb, leb, List, get_or, refl, sym, ap, ◌∙◌, subst, arith, inl, inr, ◌⊎◌}
use Rattle.std.proofs.lemmas.Nat.{mul-add-lt, row_fits}
use Rattle.std.proofs.lemmas.Bool.{cases_lt, cases_order, lt-ltb, le-ltb, le-leb, lt-leb, eq-eqb, ne_eqb, or_right}
use Rattle.raster_core.specs.Words.{is_set, is_between, in_rows}
use Rattle.raster_core.specs.Private.Words.{in_row, Ors}
use Rattle.raster_core.proofs.MaskBits.{is_set-or}

or-false : (a : Bool) → a ≡ (a || false)
or-false true = refl
or-false false = refl

within_words : (from to x : ℕ) → from ≤ x / 64 → x / 64 < to → is_between (64 * from) (64 * to) x ≡ true
within_words from to x low high = rw (le-leb (64 * from) x (omega arith), lt-ltb x (64 * to) (omega arith))

before_words : (from to x : ℕ) → x / 64 < from → is_between (64 * from) (64 * to) x ≡ false
before_words from to x h = rw (lt-leb (64 * from) x (omega arith))

after_words : (from to x : ℕ) → to ≤ x / 64 → is_between (64 * from) (64 * to) x ≡ false
after_words from to x h = rw (le-ltb x (64 * to) (omega arith)) (and-false (leb (64 * from) x))
  where
    and-false : (a : Bool) → (a && false) ≡ false
    and-false true = refl
    and-false false = refl

-- A pixel of the row itself.
same_row : (old new : List ℕ) (stride row : ℕ) (mask : List ℕ) (from to : ℕ) → Ors old new (row * stride) mask from to → (x : ℕ)
    → in_rows new stride x row ≡ (in_rows old stride x row || (is_between (64 * from) (64 * to) x && in_row mask x))
unfolding in_rows in_row
same_row old new stride row mask from to ors x = go (cases_lt (x / 64) from) (cases_lt (x / 64) to)
  where
    at : List ℕ → Bool
    at words = is_set (get_or words (row * stride + x / 64) 0) (x % 64)

    go : ((x / 64) < from) ⊎ (from ≤ (x / 64)) → ((x / 64) < to) ⊎ (to ≤ (x / 64))
        → is_set (get_or new (row * stride + x / 64) 0) (x % 64) ≡ (is_set (get_or old (row * stride + x / 64) 0) (x % 64) || (is_between (64 * from) (64 * to) x && is_set (get_or mask (x / 64) 0) (x % 64)))
    go (inl a) b =
        ap (λ w. is_set w (x % 64)) (ors.before (row * stride + x / 64) (omega arith))
        ∙ (or-false _ ∙ ap (λ m. is_set (get_or old (row * stride + x / 64) 0) (x % 64) || (m && is_set (get_or mask (x / 64) 0) (x % 64))) (sym (before_words from to x a)))
    go (inr a) (inl b) =
        ap (λ w. is_set w (x % 64)) (ors.inside (x / 64) a b)
        ∙ (is_set-or (get_or old (row * stride + x / 64) 0) (get_or mask (x / 64) 0) (x % 64)
        ∙ ap (λ m. is_set (get_or old (row * stride + x / 64) 0) (x % 64) || (m && is_set (get_or mask (x / 64) 0) (x % 64))) (sym (within_words from to x a b)))
    go (inr a) (inr b) =
        ap (λ w. is_set w (x % 64)) (ors.after (row * stride + x / 64) (omega arith))
        ∙ (or-false _ ∙ ap (λ m. is_set (get_or old (row * stride + x / 64) 0) (x % 64) || (m && is_set (get_or mask (x / 64) 0) (x % 64))) (sym (after_words from to x b)))

-- A pixel of any row.
pub one_row : (old new : List ℕ) (stride row : ℕ) (mask : List ℕ) (from to : ℕ) → to ≤ stride → Ors old new (row * stride) mask from to → (x y : ℕ) → x < 64 * stride
    → in_rows new stride x y ≡ (in_rows old stride x y || (eqb y row && (is_between (64 * from) (64 * to) x && in_row mask x)))
unfolding in_rows
one_row old new stride row mask from to fits ors x y h = go (cases_order y row)
  where
    column : x / 64 < stride
    column = omega arith

    go : (y ≡ row) ⊎ ((y < row) ⊎ (row < y)) → in_rows new stride x y ≡ (in_rows old stride x y || (eqb y row && (is_between (64 * from) (64 * to) x && in_row mask x)))
    go (inl e) =
        subst (λ r. in_rows new stride x r ≡ (in_rows old stride x r || (eqb r row && (is_between (64 * from) (64 * to) x && in_row mask x)))) (sym e)
        (same_row old new stride row mask from to ors x ∙ ap (λ m. in_rows old stride x row || (m && (is_between (64 * from) (64 * to) x && in_row mask x))) (sym (eq-eqb row row refl)))
    go (inr (inl low)) =
        let place = mul-add-lt y stride (x / 64) row low column in
        let ne : y ≡ row → ⊥ = λ e. omega arith in
        ap (λ w. is_set w (x % 64)) (ors.before (y * stride + x / 64) (omega (arith, place)))
        ∙ (or-false _ ∙ ap (λ m. in_rows old stride x y || (m && (is_between (64 * from) (64 * to) x && in_row mask x))) (sym (ne_eqb y row ne)))
    go (inr (inr high)) =
        let place = row_fits row stride y stride high (omega arith) in
        let ne : y ≡ row → ⊥ = λ e. omega arith in
        ap (λ w. is_set w (x % 64)) (ors.after (y * stride + x / 64) (omega (arith, place)))
        ∙ (or-false _ ∙ ap (λ m. in_rows old stride x y || (m && (is_between (64 * from) (64 * to) x && in_row mask x))) (sym (ne_eqb y row ne)))

joined : (a b e m : Bool) → ((a || (b && m)) || (e && m)) ≡ (a || ((b || e) && m))
joined true b e m = refl
joined false true e true = refl
joined false true true false = refl
joined false true false false = refl
joined false false e m = refl

-- One more row.
more_rows : (top row y : ℕ) → top ≤ row → (is_between top row y || eqb y row) ≡ is_between top (row + 1) y
more_rows top row y le = go (cases_order y row) (cases_lt y top)
  where
    go : (y ≡ row) ⊎ ((y < row) ⊎ (row < y)) → (y < top) ⊎ (top ≤ y) → (is_between top row y || eqb y row) ≡ is_between top (row + 1) y
    go (inl e) t = rw (eq-eqb y row e, le-leb top y (omega arith), lt-ltb y (row + 1) (omega arith)) (or_right (ltb y row) true refl)
    go (inr (inl low)) (inl t) = rw (lt-leb top y t, ne_eqb y row (λ e. omega arith))
    go (inr (inl low)) (inr t) = rw (le-leb top y t, lt-ltb y row low, lt-ltb y (row + 1) (omega arith))
    go (inr (inr high)) (inl t) = rw (lt-leb top y t, ne_eqb y row (λ e. omega arith))
    go (inr (inr high)) (inr t) = rw (le-leb top y t, le-ltb y row (omega arith), ne_eqb y row (λ e. omega arith), le-ltb y (row + 1) (omega arith))

pub rows_more : (first old new : List ℕ) (stride top row : ℕ) (black : ℕ → Bool) → top ≤ row
    → ((x y : ℕ) → x < 64 * stride → in_rows old stride x y ≡ (in_rows first stride x y || (is_between top row y && black x)))
    → ((x y : ℕ) → x < 64 * stride → in_rows new stride x y ≡ (in_rows old stride x y || (eqb y row && black x)))
    → (x y : ℕ) → x < 64 * stride → in_rows new stride x y ≡ (in_rows first stride x y || (is_between top (row + 1) y && black x))
rows_more first old new stride top row black le before step x y h =
    step x y h
    ∙ (ap (λ o. o || (eqb y row && black x)) (before x y h)
    ∙ (joined (in_rows first stride x y) (is_between top row y) (eqb y row) (black x)
    ∙ ap (λ r. in_rows first stride x y || (r && black x)) (more_rows top row y le)))
