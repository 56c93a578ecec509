-- The rest of `Tables`, which no public contract reaches (own).
use Rattle.std.specs.Prelude.{◌≡◌, ◌<◌, ◌≤◌, ◌*◌, ◌^◌, ◌++◌, ℕ, List, slice_get, Some}
use Rattle.scaled_core.specs.Dimensions.{Within}
use Rattle.break_lines.specs.declared.state.BreakState.{BreakState}
use Rattle.break_lines.specs.Orders.{NotAfter}
use Rattle.break_lines.specs.Problems.{Problem, Path, ends_of, max_places}
use Rattle.break_lines.specs.Ways.{IsLeast}
use Rattle.break_lines.specs.Tables.{Entry, max_overhang, compared_numbers, IsTable}

-- The costs of an entry are at most those of as many small lines as there are places up to it, and so they are below 2 ^ 63.
pub record IsSmall (e : Entry) : Type 0 where
  pub places : e.end.place ≤ max_places
  pub overhang : Within (max_overhang * e.end.place) e.overhang
  pub demerits : Within (2 ^ 30 * e.end.place) e.demerits

-- Entry k is the best one for its place among the first n entries.
pub record IsBestEnd (table : List Entry) (place n k : ℕ) : Type 0 where
  pub entry : Entry
  pub present : slice_get table k ≡ Some entry
  pub at : entry.end.place ≡ place
  pub best : (j : ℕ) (f : Entry) → j < n → slice_get table j ≡ Some f → f.end.place ≡ place → NotAfter (compared_numbers entry) (compared_numbers f)

-- None of the first n entries is for this place.
abbrev pub HasNoEnd : (table : List Entry) (place n : ℕ) → Type 0
HasNoEnd table place n = (j : ℕ) (f : Entry) → j < n → slice_get table j ≡ Some f → f.end.place ≡ place → ⊥

-- These are the ends of the lines of each way for entry k, for every problem of which this is a table.
abbrev pub AreEndsOf : (table : List Entry) (k : ℕ) (ends : List BreakState) → Type 0
AreEndsOf table k ends =
    (p : Problem) (b : ℕ) → IsTable p b table → (e : Entry) → slice_get table k ≡ Some e
    → (w : Path) → IsLeast p e.end w → ends ≡ ends_of w

-- The same while reading: the later ends, which were read, followed by the ends up to entry k.
abbrev pub AreEndsUpTo : (table : List Entry) (whole k : ℕ) (read : List BreakState) → Type 0
AreEndsUpTo table whole k read =
    (p : Problem) (b : ℕ) → IsTable p b table → (e f : Entry) → slice_get table whole ≡ Some e → slice_get table k ≡ Some f
    → (w v : Path) → IsLeast p e.end w → IsLeast p f.end v → ends_of w ≡ read ++ ends_of v
