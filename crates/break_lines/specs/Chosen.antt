-- The list of breaks that is chosen for a paragraph in a pass (TeX: The Program, part 38, §813, and part 39, §874; the order of ties is own).
use Rattle.std.specs.Prelude.{◌≡◌, ◌<◌, ◌≤◌, ℕ, true, List, [], ◌∷◌, reverse, Contains, Some}
use Rattle.break_lines.specs.declared.answer.ChosenBreaks.{ChosenBreaks}
use Rattle.break_lines.specs.Orders.{NotAfter}
use Rattle.break_lines.specs.Problems.{Problem, Path, path_of, ends_of, places_of, key}

-- The last place of a list of places whose last place comes first; for the empty list it is the start.
abbrev pub top : List ℕ → ℕ
top [] = 0
top (place ∷ places) = place

-- Each place is later than the one that follows it in the list, and all are after the start.
abbrev pub IsFalling : List ℕ → Type 0
IsFalling [] = Unit {0}
IsFalling (place ∷ places) = (top places < place) × IsFalling places

-- A list of breaks, with the last place first: it ends at the end of the paragraph and contains each forced place.
pub record IsBreakList (p : Problem) (places : List ℕ) : Type 0 where
  pub falls : IsFalling places
  pub ends : top places ≡ p.places
  pub forced : (place : ℕ) → 0 < place → place ≤ p.places → p.forced place ≡ true → Contains places place

-- No list of breaks has only admitted lines.
abbrev pub AdmitsNone : Problem → Type 0
AdmitsNone p = (places : List ℕ) (q : Path) → IsBreakList p places → path_of p places ≡ Some q → ⊥

-- The chosen list, with its lines: no list of admitted lines is better.
pub record IsChosen (p : Problem) (places : List ℕ) (q : Path) : Type 0 where
  pub is_list : IsBreakList p places
  pub admitted : path_of p places ≡ Some q
  pub least : (others : List ℕ) (r : Path) → IsBreakList p others → path_of p others ≡ Some r → NotAfter (key q) (key r)

-- An answer is the chosen list: the ends of its lines in order, and its costs.
pub record IsAnswer (p : Problem) (answer : ChosenBreaks) : Type 0 where
  pub path : Path
  pub chosen : IsChosen p (places_of (ends_of path)) path
  pub ends : answer.ends.items ≡ reverse (ends_of path)
  pub overhang : answer.overhang ≡ path.overhang
  pub demerits : answer.demerits ≡ path.demerits
