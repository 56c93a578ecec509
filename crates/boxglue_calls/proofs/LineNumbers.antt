-- Lines that are numbered one after the other (own).
use Rattle.std.proofs.Common.{◌≡◌, ◌+◌, ◌<◌, ◌++◌, ◌∷◌, ℕ, zero, suc, List, [], length, map, take, drop, get_or, set, refl, ap, subst, arith}

replaced : {A : Type 0} (f : A → A) (xs : List A) (i : ℕ) (d : A) → i < length xs
    → set (map f (take i xs) ++ drop i xs) i (f (get_or (map f (take i xs) ++ drop i xs) i d)) ≡ map f (take (suc i) xs) ++ drop (suc i) xs
replaced f [] i d h = absurd (omega (arith, h))
replaced f (x ∷ xs) zero d h = refl
replaced {A = A} f (x ∷ xs) (suc i) d h = ap (λ (rest : List A). f x ∷ rest) (replaced f xs i d (omega (arith, h)))

-- The element at an index is replaced by its image, where those before it are.
pub map_next : {A : Type 0} (f : A → A) (xs : List A) (i : ℕ) (d : A) → i < length xs
    → set (map f (take i xs) ++ drop i xs) i (f (get_or (map f (take i xs) ++ drop i xs) i d)) ≡ map f (take (i + 1) xs) ++ drop (i + 1) xs
map_next {A = A} f xs i d h =
    let next : suc i ≡ i + 1 = omega arith in
    subst (λ (n : ℕ). set (map f (take i xs) ++ drop i xs) i (f (get_or (map f (take i xs) ++ drop i xs) i d)) ≡ map f (take n xs) ++ drop n xs) next (replaced f xs i d h)
