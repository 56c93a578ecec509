-- The lexicographic order of lists of numbers (own).
use Rattle.std.specs.Prelude.{◌≡◌, ◌<ℤ◌, ◌⊎◌, ℤ, List, [], ◌∷◌}

-- A list of numbers is before another one in lexicographic order, or equal to it: at the first place where they differ its number is lower, or it
-- ends there.
abbrev pub NotAfter : List ℤ → List ℤ → Type 0
NotAfter [] ys = Unit {0}
NotAfter (x ∷ xs) [] = ⊥
NotAfter (x ∷ xs) (y ∷ ys) = (x <ℤ y) ⊎ ((x ≡ y) × NotAfter xs ys)
