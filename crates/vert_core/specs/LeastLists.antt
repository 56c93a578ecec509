-- The chosen list of breaks as a function: the best of all lists (own; TeX: The Program, part 38, §813, and part 39, §874, has one table in place of
-- all lists).
use Rattle.std.specs.Prelude.{◌++◌, ℕ, zero, suc, ℤ, Bool, true, false, int_lt, if◌then◌else◌, List, [], ◌∷◌, map, Option, Some, None}
use Rattle.break_lines.specs.Problems.{Problem, Path, path_of, key}

-- Whether a list of numbers is before another one in lexicographic order, or equal to it.
abbrev pub is_not_after : List ℤ → List ℤ → Bool
is_not_after [] ys = true
is_not_after (x ∷ xs) [] = false
is_not_after (x ∷ xs) (y ∷ ys) = if int_lt x y then true else (if int_lt y x then false else is_not_after xs ys)

-- The lists of places up to this one that contain each forced place; each list has its last place first.
unfoldable pub lists_up_to : Problem → ℕ → List (List ℕ)
lists_up_to p zero = [] ∷ []
lists_up_to p (suc n) = (if p.forced (suc n) then [] else lists_up_to p n) ++ map (λ (places : List ℕ). suc n ∷ places) (lists_up_to p n)

-- Those of these lists that end at this place.
abbrev pub lists_to : Problem → ℕ → List (List ℕ)
lists_to p zero = [] ∷ []
lists_to p (suc n) = map (λ (places : List ℕ). suc n ∷ places) (lists_up_to p n)

-- The better one of two paths.
abbrev pub lesser_path : Path → Option Path → Path
lesser_path q None = q
lesser_path q (Some r) = if is_not_after (key q) (key r) then q else r

-- The best path among those that exist.
abbrev pub least_of : List (Option Path) → Option Path
least_of [] = None
least_of (None ∷ paths) = least_of paths
least_of (Some q ∷ paths) = Some (lesser_path q (least_of paths))

-- The best of all lists of breaks whose lines are admitted, if there is one.
unfoldable pub least_path : Problem → Option Path
least_path p = least_of (map (path_of p) (lists_to p p.places))
