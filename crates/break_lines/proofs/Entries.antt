-- Elements of lists: of two lists together, and after a write.
use Rattle.std.proofs.Common.{◌≡◌, ◌≢◌, ℕ, suc, zero, ◌+◌, ◌<◌, List, [], ◌∷◌, ◌++◌, length, set, replicate, refl, ap, sym, arith, Some}
use Rattle.std.proofs.Math.Logic.{◌⊎◌, inl, inr}
use Rattle.std.specs.Prelude.{slice_get}
use Rattle.std.proofs.lemmas.Option.{same_Some}

pub get_left : {A : Type 0} (xs ys : List A) (k : ℕ) (x : A) → slice_get xs k ≡ Some x → slice_get (xs ++ ys) k ≡ Some x
get_left [] ys k x is = absurd (cc)
get_left (y ∷ xs) ys zero x is = is
get_left (y ∷ xs) ys (suc k) x is = get_left xs ys k x is

pub get_right : {A : Type 0} (xs ys : List A) (k : ℕ) (x : A) → slice_get ys k ≡ Some x → slice_get (xs ++ ys) (length xs + k) ≡ Some x
get_right {A = A} [] ys k x is = let same : 0 + k ≡ k = omega arith in rw same is
get_right {A = A} (y ∷ xs) ys k x is =
    let same : length (y ∷ xs) + k ≡ suc (length xs + k) = omega arith in
    let rest : slice_get (xs ++ ys) (length xs + k) ≡ Some x = get_right xs ys k x is in
    rw same rest

-- An element of two lists together is one of the first or one of the second.
pub get_cases :
    {A : Type 0} (xs ys : List A) (k : ℕ) (x : A) → slice_get (xs ++ ys) k ≡ Some x
    → (slice_get xs k ≡ Some x) ⊎ ((j : ℕ) × (k ≡ length xs + j) × (slice_get ys j ≡ Some x))
get_cases [] ys k x is = inr (k, omega arith, is)
get_cases (y ∷ xs) ys zero x is = inl is
get_cases {A = A} (y ∷ xs) ys (suc k) x is = cases (get_cases xs ys k x is)
  where
    cases :
        (slice_get xs k ≡ Some x) ⊎ ((j : ℕ) × (k ≡ length xs + j) × (slice_get ys j ≡ Some x))
        → (slice_get xs k ≡ Some x) ⊎ ((j : ℕ) × (suc k ≡ length (y ∷ xs) + j) × (slice_get ys j ≡ Some x))
    cases (inl here) = inl here
    cases (inr there) = inr (there.0, omega (arith, there.1), there.2)

-- A written element is at its index, and the others do not change.
pub get-set_same : {A : Type 0} (xs : List A) (i : ℕ) (y z : A) → slice_get xs i ≡ Some z → slice_get (set xs i y) i ≡ Some y
get-set_same [] i y z is = absurd (cc)
get-set_same (x ∷ xs) zero y z is = refl
get-set_same (x ∷ xs) (suc i) y z is = get-set_same xs i y z is

pub get-set_other : {A : Type 0} (xs : List A) (i j : ℕ) (y : A) → j ≢ i → slice_get (set xs i y) j ≡ slice_get xs j
get-set_other [] i j y other = refl
get-set_other (x ∷ xs) zero zero y other = absurd (other refl)
get-set_other (x ∷ xs) zero (suc j) y other = refl
get-set_other (x ∷ xs) (suc i) zero y other = refl
get-set_other (x ∷ xs) (suc i) (suc j) y other = get-set_other xs i j y (λ same. other (ap suc same))

-- Each element of a list of equal values is this value.
pub get-replicate : {A : Type 0} (n k : ℕ) (x y : A) → slice_get (replicate n x) k ≡ Some y → y ≡ x
get-replicate zero k x y is = absurd (cc)
get-replicate (suc n) zero x y is = sym (same_Some x y is)
get-replicate (suc n) (suc k) x y is = get-replicate n k x y is

-- A list has an element at each index below its length.
pub get_at : {A : Type 0} (xs : List A) (k : ℕ) → k < length xs → (x : A) × (slice_get xs k ≡ Some x)
get_at [] k within = absurd (omega arith)
get_at (x ∷ xs) zero within = (x, refl)
get_at (x ∷ xs) (suc k) within = get_at xs k (omega arith)

-- Writing the element that is there changes nothing.
pub set-get_same : {A : Type 0} (xs : List A) (i : ℕ) (y : A) → slice_get xs i ≡ Some y → set xs i y ≡ xs
set-get_same [] i y is = absurd (cc)
set-get_same (x ∷ xs) zero y is = ap (λ z. z ∷ xs) (sym (same_Some x y is))
set-get_same (x ∷ xs) (suc i) y is = ap (λ l. x ∷ l) (set-get_same xs i y is)
