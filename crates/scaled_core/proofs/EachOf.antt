-- Lists whose elements all have a property.
use Rattle.std.proofs.Common.{◌≡◌, ◌<◌, ◌++◌, ℕ, zero, suc, List, [], ◌∷◌, length, take, set, map, replicate, Option, Some, None, subst, arith}
use Rattle.std.specs.Prelude.{slice_get, unwrap_or}
use Rattle.std.specs.List.{AllByRecursion}

module _ {A : Type 0} (P : A → Type 0) where
  pub each_taken : (n : ℕ) (xs : List A) → AllByRecursion P xs → AllByRecursion P (take n xs)
  each_taken zero xs all = tt
  each_taken (suc n) [] all = tt
  each_taken (suc n) (x ∷ xs) all = (all.0, each_taken n xs all.1)

  pub each_set : (xs : List A) (i : ℕ) (y : A) → AllByRecursion P xs → P y → AllByRecursion P (set xs i y)
  each_set [] i y all here = tt
  each_set (x ∷ xs) zero y all here = (here, all.1)
  each_set (x ∷ xs) (suc i) y all here = (all.0, each_set xs i y all.1 here)

  pub each_at : (xs : List A) (i : ℕ) (y : A) → AllByRecursion P xs → slice_get xs i ≡ Some y → P y
  each_at [] i y all is = cc
  each_at (x ∷ xs) zero y all is = subst P (some_same is) all.0
    where
      some_same : Some x ≡ Some y → x ≡ y
      some_same e = cc
  each_at (x ∷ xs) (suc i) y all is = each_at xs i y all.1 is

  pub each_copy : (n : ℕ) (x : A) → P x → AllByRecursion P (replicate n x)
  each_copy zero x here = tt
  each_copy (suc n) x here = (here, each_copy n x here)

-- The content of a slot or a register has the property, and its number is below the number of slots.
pub each_held : {A : Type 0} (P : Option A → Type 0) (xs : List (Option A)) (i : ℕ) (x : A) → AllByRecursion P xs → unwrap_or (slice_get xs i) None ≡ Some x → P (Some x)
each_held P [] i x all is = cc
each_held P (held ∷ xs) zero x all is = subst P is all.0
each_held P (held ∷ xs) (suc i) x all is = each_held P xs i x all.1 is

pub held_within : {A : Type 0} (xs : List (Option A)) (i : ℕ) (x : A) → unwrap_or (slice_get xs i) None ≡ Some x → i < length xs
held_within [] i x is = cc
held_within (held ∷ xs) zero x is = omega arith
held_within (held ∷ xs) (suc i) x is = omega (arith, held_within xs i x is)

-- A fact that holds of all items of two lists holds of all items of both together.
pub all_append : {X : Type 0} (P : X → Type 0) (xs ys : List X) → AllByRecursion P xs → AllByRecursion P ys → AllByRecursion P (xs ++ ys)
all_append P [] ys p q = q
all_append P (x ∷ xs) ys (here, p) q = (here, all_append P xs ys p q)

pub all_front : {X : Type 0} (P : X → Type 0) (xs ys : List X) → AllByRecursion P (xs ++ ys) → AllByRecursion P xs
all_front P [] ys p = tt
all_front P (x ∷ xs) ys (here, p) = (here, all_front P xs ys p)

pub all_back : {X : Type 0} (P : X → Type 0) (xs ys : List X) → AllByRecursion P (xs ++ ys) → AllByRecursion P ys
all_back P [] ys p = p
all_back P (x ∷ xs) ys (here, p) = all_back P xs ys p

-- From a fact of all items: a weaker one, the conjunction of two, and the fact of all images.
pub all_weaker : {X : Type 0} (P Q : X → Type 0) (xs : List X) → ((x : X) → P x → Q x) → AllByRecursion P xs → AllByRecursion Q xs
all_weaker P Q [] from p = tt
all_weaker P Q (x ∷ xs) from (here, p) = (from x here, all_weaker P Q xs from p)

pub all_both : {X : Type 0} (P Q : X → Type 0) (xs : List X) → AllByRecursion P xs → AllByRecursion Q xs → AllByRecursion (λ x. P x × Q x) xs
all_both P Q [] p q = tt
all_both P Q (x ∷ xs) (here, p) (here', q) = ((here, here'), all_both P Q xs p q)

pub all_map : {X Y : Type 0} (P : Y → Type 0) (f : X → Y) (xs : List X) → AllByRecursion (λ x. P (f x)) xs → AllByRecursion P (map f xs)
all_map P f [] p = tt
all_map P f (x ∷ xs) (here, p) = (here, all_map P f xs p)

pub all_unmap : {X Y : Type 0} (P : Y → Type 0) (f : X → Y) (xs : List X) → AllByRecursion P (map f xs) → AllByRecursion (λ x. P (f x)) xs
all_unmap P f [] p = tt
all_unmap P f (x ∷ xs) (here, p) = (here, all_unmap P f xs p)
