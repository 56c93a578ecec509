-- A run is put into a row, with the words that are not known to be black.
use Rattle.std.proofs.Common.{◌≡◌, ℕ, ◌+◌, ◌-◌, ◌*◌, ◌/◌, ◌%◌, ◌<◌, ◌≤◌, Bool, true, false, ◌&&◌, ◌||◌, eqb, ltb, leb, List, get_or, refl, sym, ap, ◌∙◌, subst, arith, inl, inr, ◌⊎◌}
use Rattle.std.specs.Prelude.{bit_or}
use Rattle.std.specs.Int.{div_ceil}
use Rattle.std.proofs.lemmas.Bool.{cases_lt, lt-ltb, le-ltb, le-leb, lt-leb, eqb-true, and_from, and_right, or_left, or_right}
use Rattle.raster_core.specs.Words.{AreFull, is_between, in_rows, is_set}
use Rattle.raster_core.specs.Private.Words.{IsRun, Ors, in_row}
use Rattle.raster_core.proofs.MaskBits.{is_set-or}
use Rattle.raster_core.proofs.RowSteps.{one_row}

inside : (a b k : ℕ) → a ≤ k → k < b → is_between a b k ≡ true
inside a b k low high = and_from (leb a k) (ltb k b) (le-leb a k low) (lt-ltb k b high)

below : (a b k : ℕ) → k < a → is_between a b k ≡ false
below a b k h = rw (lt-leb a k h)

above : (a b k : ℕ) → b ≤ k → is_between a b k ≡ false
above a b k h = and_right (leb a k) (ltb k b) (le-ltb k b h)

-- A number in between.
within : (P : Type 0) (a b k : ℕ) → is_between a b k ≡ true → (a ≤ k → k < b → P) → P
within P a b k is f = go (cases_lt k a) (cases_lt k b)
  where
    go : (k < a) ⊎ (a ≤ k) → (k < b) ⊎ (b ≤ k) → P
    go (inl h) t = let both : true ≡ false = sym is ∙ below a b k h in absurd cc
    go (inr h) (inl t) = f h t
    go (inr h) (inr t) = let both : true ≡ false = sym is ∙ above a b k t in absurd cc

-- The mask has exactly the pixels of the run.
only_run : (mask inner : List ℕ) (first last x : ℕ) → IsRun mask inner first last → (is_between (64 * (first / 64)) (64 * div_ceil last 64) x && in_row mask x) ≡ is_between first last x
only_run mask inner first last x run = go (cases_lt x (64 * (first / 64))) (cases_lt x (64 * div_ceil last 64))
  where
    go : (x < 64 * (first / 64)) ⊎ (64 * (first / 64) ≤ x) → (x < 64 * div_ceil last 64) ⊎ (64 * div_ceil last 64 ≤ x)
        → (is_between (64 * (first / 64)) (64 * div_ceil last 64) x && in_row mask x) ≡ is_between first last x
    go (inl a) b = ap (λ t. t && in_row mask x) (below (64 * (first / 64)) (64 * div_ceil last 64) x a) ∙ sym (below first last x (omega arith))
    go (inr a) (inl b) = ap (λ t. t && in_row mask x) (inside (64 * (first / 64)) (64 * div_ceil last 64) x a b) ∙ run.touched x a b
    go (inr a) (inr b) = ap (λ t. t && in_row mask x) (above (64 * (first / 64)) (64 * div_ceil last 64) x b) ∙ sym (above first last x (omega arith))

-- A run is put into a row as a whole.
pub whole_run : (old new : List ℕ) (stride row : ℕ) (mask inner : List ℕ) (first last to : ℕ) → to ≡ div_ceil last 64 → last ≤ 64 * stride → IsRun mask inner first last
    → Ors old new (row * stride) mask (first / 64) to
    → (x y : ℕ) → x < 64 * stride → in_rows new stride x y ≡ (in_rows old stride x y || (eqb y row && is_between first last x))
whole_run old new stride row mask inner first last to is fits run ors x y h =
    one_row old new stride row mask (first / 64) (div_ceil last 64) (omega arith) (subst (λ t. Ors old new (row * stride) mask (first / 64) t) is ors) x y h
    ∙ ap (λ m. in_rows old stride x y || (eqb y row && m)) (only_run mask inner first last x run)

follows_black : (a b c d o e : Bool) → (a ≡ true → o ≡ true) → (d ≡ true → e ≡ true) → (a || (b && (c && d))) ≡ true → (o || (b && e)) ≡ true
follows_black true b c d o e p q r = ap (λ u. u || (b && e)) (p refl)
follows_black false true true true o e p q r = or_right o e (q refl)
follows_black false true true false o e p q r = absurd cc
follows_black false true false d o e p q r = absurd cc
follows_black false false c d o e p q r = absurd cc

-- The words that the run fills are black afterwards.
pub fuller : (full more old new : List ℕ) (stride row : ℕ) (mask inner : List ℕ) (first last : ℕ) → stride ≤ 192 → IsRun mask inner first last → AreFull full old stride
    → Ors full more (row * 3) inner 0 3
    → ((x y : ℕ) → x < 64 * stride → in_rows new stride x y ≡ (in_rows old stride x y || (eqb y row && is_between first last x)))
    → AreFull more new stride
fuller full more old new stride row mask inner first last few run black ors step x y h set =
    step x y h
    ∙ follows_black (in_rows full 3 (x / 64) y) (eqb y row) (is_between (64 * 0) (64 * 3) (x / 64)) (in_row inner (x / 64)) (in_rows old stride x y) (is_between first last x)
    (black x y h)
    (λ is. within (is_between first last x ≡ true) (div_ceil first 64) (last / 64) (x / 64) (sym (run.filled (x / 64) (omega arith)) ∙ is)
    (λ low high. inside first last x (omega arith) (omega arith)))
    (sym (one_row full more 3 row inner 0 3 (omega arith) ors (x / 64) y (omega arith)) ∙ set)

-- Black pixels stay black.
pub as_full : (full old new : List ℕ) (stride : ℕ) (black : ℕ → ℕ → Bool) → AreFull full old stride
    → ((x y : ℕ) → x < 64 * stride → in_rows new stride x y ≡ (in_rows old stride x y || black x y)) → AreFull full new stride
as_full full old new stride black are step x y h set = step x y h ∙ or_left (in_rows old stride x y) (black x y) (are x y h set)

-- The two ends and the pixels that were black are the run.
ends_joined : (o e A B C : Bool) → (A ≡ true → C ≡ true) → (B ≡ true → C ≡ true) → (e ≡ true → C ≡ true → (A || (B || o)) ≡ true) → ((o || (e && A)) || (e && B)) ≡ (o || (e && C))
ends_joined true e A B C p q r = refl
ends_joined false false A B C p q r = refl
ends_joined false true true B C p q r = sym (p refl)
ends_joined false true false true C p q r = sym (q refl)
ends_joined false true false false true p q r = r refl refl
ends_joined false true false false false p q r = refl

-- A word that the run fills, where all these words are known to be black.
known : (full : List ℕ) (row : ℕ) (inner : List ℕ) (k : ℕ) → k < 192 → in_row inner k ≡ true
    → ((j : ℕ) → 0 ≤ j → j < 3 → bit_or (get_or full (row * 3 + j) 0) (get_or inner j 0) ≡ get_or full (row * 3 + j) 0)
    → in_rows full 3 k row ≡ true
unfolding in_row in_rows
known full row inner k few is has =
    sym (ap (λ w. is_set w (k % 64)) (has (k / 64) (omega arith) (omega arith)))
    ∙ (is_set-or (get_or full (row * 3 + k / 64) 0) (get_or inner (k / 64) 0) (k % 64) ∙ or_right (is_set (get_or full (row * 3 + k / 64) 0) (k % 64)) _ is)

-- A run is put into a row by its ends only.
pub ends_of_run : (full old mid new : List ℕ) (stride row : ℕ) (mask inner : List ℕ) (first last to : ℕ) → to ≡ div_ceil last 64 → first < last → last ≤ 64 * stride → stride ≤ 192
    → IsRun mask inner first last → AreFull full old stride
    → ((j : ℕ) → 0 ≤ j → j < 3 → bit_or (get_or full (row * 3 + j) 0) (get_or inner j 0) ≡ get_or full (row * 3 + j) 0)
    → Ors old mid (row * stride) mask (first / 64) (first / 64 + 1)
    → Ors mid new (row * stride) mask (to - 1) to
    → (x y : ℕ) → x < 64 * stride → in_rows new stride x y ≡ (in_rows old stride x y || (eqb y row && is_between first last x))
ends_of_run full old mid new stride row mask inner first last to is_to some fits few run black has left right x y h =
    one_row mid new stride row mask (div_ceil last 64 - 1) (div_ceil last 64) (omega arith)
    (subst (λ t. Ors mid new (row * stride) mask (t - 1) t) is_to right) x y h
    ∙ (ap (λ o. o || (eqb y row && (is_between (64 * (div_ceil last 64 - 1)) (64 * div_ceil last 64) x && in_row mask x)))
    (one_row old mid stride row mask (first / 64) (first / 64 + 1) (omega arith) left x y h)
    ∙ ends_joined (in_rows old stride x y) (eqb y row) (is_between (64 * (first / 64)) (64 * (first / 64 + 1)) x && in_row mask x)
    (is_between (64 * (div_ceil last 64 - 1)) (64 * div_ceil last 64) x && in_row mask x)
    (is_between first last x)
    (λ is. left_end (cases_lt x (64 * (first / 64))) (cases_lt x (64 * (first / 64 + 1))) is)
    (λ is. right_end (cases_lt x (64 * (div_ceil last 64 - 1))) (cases_lt x (64 * div_ceil last 64)) is)
    (λ same is. within ((A || (B || in_rows old stride x y)) ≡ true) first last x is
    (λ low high. rest (eqb-true y row same) low high (cases_lt x (64 * (first / 64 + 1))) (cases_lt x (64 * (div_ceil last 64 - 1))))))
  where
    A : Bool
    A = is_between (64 * (first / 64)) (64 * (first / 64 + 1)) x && in_row mask x

    B : Bool
    B = is_between (64 * (div_ceil last 64 - 1)) (64 * div_ceil last 64) x && in_row mask x

    left_end : (x < 64 * (first / 64)) ⊎ (64 * (first / 64) ≤ x) → (x < 64 * (first / 64 + 1)) ⊎ (64 * (first / 64 + 1) ≤ x) → A ≡ true → is_between first last x ≡ true
    left_end (inl a) b is = let both : true ≡ false = sym is ∙ ap (λ t. t && in_row mask x) (below (64 * (first / 64)) (64 * (first / 64 + 1)) x a) in absurd cc
    left_end (inr a) (inl b) is =
        sym (run.touched x a (omega arith)) ∙ (sym (ap (λ t. t && in_row mask x) (inside (64 * (first / 64)) (64 * (first / 64 + 1)) x a b)) ∙ is)
    left_end (inr a) (inr b) is = let both : true ≡ false = sym is ∙ ap (λ t. t && in_row mask x) (above (64 * (first / 64)) (64 * (first / 64 + 1)) x b) in absurd cc

    right_end : (x < 64 * (div_ceil last 64 - 1)) ⊎ (64 * (div_ceil last 64 - 1) ≤ x) → (x < 64 * div_ceil last 64) ⊎ (64 * div_ceil last 64 ≤ x) → B ≡ true → is_between first last x ≡ true
    right_end (inl a) b is = let both : true ≡ false = sym is ∙ ap (λ t. t && in_row mask x) (below (64 * (div_ceil last 64 - 1)) (64 * div_ceil last 64) x a) in absurd cc
    right_end (inr a) (inl b) is =
        sym (run.touched x (omega arith) b) ∙ (sym (ap (λ t. t && in_row mask x) (inside (64 * (div_ceil last 64 - 1)) (64 * div_ceil last 64) x a b)) ∙ is)
    right_end (inr a) (inr b) is = let both : true ≡ false = sym is ∙ ap (λ t. t && in_row mask x) (above (64 * (div_ceil last 64 - 1)) (64 * div_ceil last 64) x b) in absurd cc

    rest : y ≡ row → first ≤ x → x < last → (x < 64 * (first / 64 + 1)) ⊎ (64 * (first / 64 + 1) ≤ x) → (x < 64 * (div_ceil last 64 - 1)) ⊎ (64 * (div_ceil last 64 - 1) ≤ x)
        → (A || (B || in_rows old stride x y)) ≡ true
    rest same low high (inl a) b =
        or_left A (B || in_rows old stride x y)
        (and_from (is_between (64 * (first / 64)) (64 * (first / 64 + 1)) x) (in_row mask x) (inside (64 * (first / 64)) (64 * (first / 64 + 1)) x (omega arith) a)
        (run.touched x (omega arith) (omega arith) ∙ inside first last x low high))
    rest same low high (inr a) (inr b) =
        or_right A (B || in_rows old stride x y)
        (or_left B (in_rows old stride x y)
        (and_from (is_between (64 * (div_ceil last 64 - 1)) (64 * div_ceil last 64) x) (in_row mask x)
        (inside (64 * (div_ceil last 64 - 1)) (64 * div_ceil last 64) x b (omega arith))
        (run.touched x (omega arith) (omega arith) ∙ inside first last x low high)))
    rest same low high (inr a) (inl b) =
        or_right A (B || in_rows old stride x y)
        (or_right B (in_rows old stride x y)
        (black x y h
        (ap (λ r. in_rows full 3 (x / 64) r) same
        ∙ known full row inner (x / 64) (omega arith) (run.filled (x / 64) (omega arith) ∙ inside (div_ceil first 64) (last / 64) (x / 64) (omega arith) (omega arith)) has)))
