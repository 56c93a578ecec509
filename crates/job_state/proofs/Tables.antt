-- Tables of which only the first places are kept, since those above hold nothing.
use Rattle.std.proofs.Common.{◌≡◌, ◌∙◌, ℕ, zero, suc, ◌+◌, ◌-◌, ◌<◌, ◌≤◌, List, [], ◌∷◌, ◌++◌, length, set, replicate, Option, None, refl, sym, ap, append_assoc, length-append, arith}
use Rattle.std.specs.Prelude.{slice_get, unwrap_or, slice_index_or}
use Rattle.std.proofs.lemmas.List.{set-append_left, set-append_right, length-set, length-replicate, replicate_more}
use Rattle.std.proofs.lemmas.Option.{slice_get_past, slice_get-get_or}
use Rattle.job_state.specs.Private.Registers.{filled_up}

module _ {A : Type 0} where
  nothing_at : (n i : ℕ) → unwrap_or (slice_get (replicate {A = Option A} n None) i) None ≡ None
  nothing_at zero i = refl
  nothing_at (suc n) zero = refl
  nothing_at (suc n) (suc i) = nothing_at n i

  held_before : (xs : List (Option A)) (n i : ℕ) → unwrap_or (slice_get (xs ++ replicate n None) i) None ≡ unwrap_or (slice_get xs i) None
  held_before [] n i = nothing_at n i
  held_before (x ∷ xs) n zero = refl
  held_before (x ∷ xs) n (suc i) = held_before xs n i

  nothing_set : (n i : ℕ) → set (replicate {A = Option A} n None) i None ≡ replicate n None
  nothing_set zero i = refl
  nothing_set (suc n) zero = refl
  nothing_set (suc n) (suc i) = ap (λ (xs : List (Option A)). None ∷ xs) (nothing_set n i)

  set_among : (n i m : ℕ) (x : Option A) → i + suc m ≡ n → set (replicate n None) i x ≡ replicate i None ++ (x ∷ replicate m None)
  set_among zero i m x parts = absurd (omega arith)
  set_among (suc n) zero m x parts =
      let same : n ≡ m = omega arith in
      ap (λ (j : ℕ). x ∷ replicate {A = Option A} j None) same
  set_among (suc n) (suc i) m x parts = ap (λ (xs : List (Option A)). None ∷ xs) (set_among n i m x (omega arith))

  regrouped : (xs ys zs : List (Option A)) (x : Option A) → (xs ++ (ys ++ (x ∷ []))) ++ zs ≡ xs ++ (ys ++ (x ∷ zs))
  regrouped xs ys zs x = simp append_assoc

  longer : (xs : List (Option A)) (k : ℕ) (x : Option A) → length (xs ++ (replicate {A = Option A} k None ++ (x ∷ []))) ≡ length xs + (k + 1)
  longer xs k x = simp (length-append, length-replicate)

  -- A table that holds nothing.
  pub filled_empty : (n : ℕ) (xs : List (Option A)) → xs ≡ [] → filled_up n xs ≡ replicate n None
  unfolding filled_up
  filled_empty n xs none =
      let whole : n - 0 ≡ n = omega arith in
      ap (λ (ys : List (Option A)). ys ++ replicate {A = Option A} (n - length ys) None) none ∙ ap (λ (j : ℕ). replicate {A = Option A} j None) whole

  held_in_filled : (n : ℕ) (xs : List (Option A)) (i : ℕ) → unwrap_or (slice_get (filled_up n xs) i) None ≡ unwrap_or (slice_get xs i) None
  unfolding filled_up
  held_in_filled n xs i = held_before xs (n - length xs) i

  held_there : (n : ℕ) (xs table : List (Option A)) (i r : ℕ) → filled_up n xs ≡ table → i ≡ r → unwrap_or (slice_get xs i) None ≡ unwrap_or (slice_get table r) None
  held_there n xs table i r is number =
      sym (held_in_filled n xs i)
      ∙ (ap (λ (ys : List (Option A)). unwrap_or (slice_get ys i) None) is
      ∙ ap (λ (j : ℕ). unwrap_or (slice_get table j) None) number)

  -- What one of the first places holds.
  pub held_at : (n : ℕ) (xs table : List (Option A)) (i r : ℕ) (x : Option A) → filled_up n xs ≡ table → i ≡ r → i < length xs → x ≡ slice_index_or xs i x → x ≡ unwrap_or (slice_get table r) None
  held_at n xs table i r x is number within here =
      here
      ∙ (sym (ap (λ (held : Option (Option A)). unwrap_or held None) (slice_get-get_or xs i x within))
      ∙ held_there n xs table i r is number)

  -- A place above them holds nothing.
  pub nothing_above : (n : ℕ) (xs table : List (Option A)) (i r : ℕ) → filled_up n xs ≡ table → i ≡ r → length xs ≤ i → None ≡ unwrap_or (slice_get table r) None
  nothing_above n xs table i r is number above =
      sym (ap (λ (held : Option (Option A)). unwrap_or held None) (slice_get_past xs i above))
      ∙ held_there n xs table i r is number

  set_there : (table other : List (Option A)) (i r : ℕ) (x y : Option A) → table ≡ other → i ≡ r → x ≡ y → set table i x ≡ set other r y
  set_there table other i r x y is number same =
      ap (λ (ys : List (Option A)). set ys i x) is
      ∙ (ap (λ (j : ℕ). set other j x) number
      ∙ ap (λ (z : Option A). set other r z) same)

  -- One of the first places gets another content.
  pub set_first : (n : ℕ) (xs table : List (Option A)) (i r : ℕ) (x y : Option A) → filled_up n xs ≡ table → i ≡ r → x ≡ y → i < length xs → filled_up n (set xs i x) ≡ set table r y
  unfolding filled_up
  set_first n xs table i r x y is number same within =
      rw (length-set xs i x) (sym (set-append_left xs (replicate (n - length xs) None) i x within))
      ∙ set_there (filled_up n xs) table i r x y is number same

  -- A place above them is left without a content.
  pub set_nothing : (n : ℕ) (xs table : List (Option A)) (i r : ℕ) (x : Option A) → filled_up n xs ≡ table → i ≡ r → None ≡ x → length xs ≤ i → table ≡ set table r x
  unfolding filled_up
  set_nothing n xs table i r x is number none above =
      sym is
      ∙ (sym (set-append_right xs (replicate (n - length xs) None) (length xs) i None refl above ∙ ap (λ (ys : List (Option A)). xs ++ ys) (nothing_set (n - length xs) (i - length xs)))
      ∙ set_there (filled_up n xs) table i r None x is number none)

  -- A place above them gets a content.
  pub set_above : (n : ℕ) (xs ys table : List (Option A)) (i r : ℕ) (x y : Option A) → filled_up n xs ≡ table → i ≡ r → x ≡ y → length xs ≤ i → i < n →
      ys ≡ xs ++ (replicate (i - length xs) None ++ (x ∷ [])) → filled_up n ys ≡ set table r y
  unfolding filled_up
  set_above n xs ys table i r x y is number same above within grown =
      let left : n - length (xs ++ (replicate {A = Option A} (i - length xs) None ++ (x ∷ []))) ≡ n - suc i = omega (arith, longer xs (i - length xs) x) in
      let parts : i - length xs + suc (n - suc i) ≡ n - length xs = omega arith in
      ap (λ (zs : List (Option A)). filled_up n zs) grown
      ∙ (ap (λ (j : ℕ). (xs ++ (replicate {A = Option A} (i - length xs) None ++ (x ∷ []))) ++ replicate {A = Option A} j None) left
      ∙ (regrouped xs (replicate (i - length xs) None) (replicate (n - suc i) None) x
      ∙ (sym (ap (λ (zs : List (Option A)). xs ++ zs) (set_among (n - length xs) (i - length xs) (n - suc i) x parts))
      ∙ (sym (set-append_right xs (replicate (n - length xs) None) (length xs) i x refl above)
      ∙ set_there (filled_up n xs) table i r x y is number same))))

  -- A table has at least its places.
  pub filled_long : (n : ℕ) (xs : List (Option A)) → n ≤ length (filled_up n xs)
  unfolding filled_up
  filled_long n xs = omega (arith, length-append xs (replicate (n - length xs) None), length-replicate {A = Option A} (n - length xs) None)

  -- A list with places above it, and one place more.
  pub place_more : (xs ys zs : List (Option A)) (i : ℕ) → length xs ≤ i → ys ≡ xs ++ replicate (i - length xs) None → zs ≡ ys ++ (None ∷ [])
      → zs ≡ xs ++ replicate (i + 1 - length xs) None
  place_more xs ys zs i below before after =
      let more : i - length xs + 1 ≡ i + 1 - length xs = omega (arith, below) in
      after ∙ (ap (λ (ws : List (Option A)). ws ++ (None ∷ [])) before
      ∙ (append_assoc xs (replicate {A = Option A} (i - length xs) None) (None ∷ [])
      ∙ (ap (λ (ws : List (Option A)). xs ++ ws) (replicate_more {X = Option A} (i - length xs) None)
      ∙ ap (λ (j : ℕ). xs ++ replicate {A = Option A} j None) more)))
