-- An element of a list is set, set again and set back; and which elements a list has.
use Rattle.std.proofs.Common.{◌≡◌, ◌∙◌, ℕ, zero, suc, ◌-◌, ◌==◌, ◌<◌, List, [], ◌∷◌, length, take, set, get_or, true, Some, None, refl, ap, sym, arith}
use Rattle.std.specs.Prelude.{slice_get}

module _ {A : Type 0} where
  some_same : (x y : A) → Some x ≡ Some y → x ≡ y
  some_same x y e = cc

  pub set_back : (xs : List A) (i : ℕ) (x y : A) → slice_get xs i ≡ Some x → set (set xs i y) i x ≡ xs
  set_back [] i x y is = refl
  set_back (z ∷ xs) zero x y is = ap (λ first. first ∷ xs) (sym (some_same z x is))
  set_back (z ∷ xs) (suc i) x y is = ap (λ rest. z ∷ rest) (set_back xs i x y is)

  pub set_again : (xs : List A) (i : ℕ) (x y : A) → set (set xs i x) i y ≡ set xs i y
  set_again [] i x y = refl
  set_again (z ∷ xs) zero x y = refl
  set_again (z ∷ xs) (suc i) x y = ap (λ rest. z ∷ rest) (set_again xs i x y)

  pub set_same : (xs : List A) (i : ℕ) (x : A) → slice_get xs i ≡ Some x → set xs i x ≡ xs
  set_same [] i x is = refl
  set_same (y ∷ xs) zero x is = ap (λ first. first ∷ xs) (sym (some_same y x is))
  set_same (y ∷ xs) (suc i) x is = ap (λ rest. y ∷ rest) (set_same xs i x is)

  pub get_set : (xs : List A) (i : ℕ) (x y : A) → slice_get xs i ≡ Some x → slice_get (set xs i y) i ≡ Some y
  get_set [] i x y is = cc
  get_set (z ∷ xs) zero x y is = refl
  get_set (z ∷ xs) (suc i) x y is = get_set xs i x y is

  pub get_take : (xs : List A) (n i : ℕ) → i < n → slice_get (take n xs) i ≡ slice_get xs i
  get_take xs zero i below = absurd (omega (arith, below))
  get_take [] (suc n) i below = refl
  get_take (x ∷ xs) (suc n) zero below = refl
  get_take (x ∷ xs) (suc n) (suc i) below = get_take xs n i (omega (arith, below))

  pub get_some : (xs : List A) (i : ℕ) (d : A) → i < length xs → slice_get xs i ≡ Some (get_or xs i d)
  get_some [] i d below = absurd (omega (arith, below))
  get_some (x ∷ xs) zero d below = refl
  get_some (x ∷ xs) (suc i) d below = get_some xs i d (omega (arith, below))

  -- A list without a last element is empty.
  pub none_last : (xs : List A) → slice_get xs (length xs - 1) ≡ None → (length xs == 0) ≡ true
  none_last [] is = refl
  none_last (x ∷ xs) is = absurd (no_end x xs (ap (slice_get (x ∷ xs)) (omega arith) ∙ is))
    where
      no_end : (x : A) (xs : List A) → slice_get (x ∷ xs) (length xs) ≡ None → ⊥
      no_end x [] is = cc
      no_end x (y ∷ xs) is = no_end y xs is
