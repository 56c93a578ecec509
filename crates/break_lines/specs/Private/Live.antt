-- The groups of entries from which lines can still begin (own).
use Rattle.std.specs.Prelude.{◌≡◌, ◌<◌, ◌≤◌, ℕ, List, [], ◌∷◌, length, slice_get, Some, None}
use Rattle.break_lines.specs.declared.group.ActiveGroup.{ActiveGroup}
use Rattle.break_lines.specs.Problems.{Problem}
use Rattle.break_lines.specs.Ways.{last_forced_below}
use Rattle.break_lines.specs.Tables.{Entry, offer}

-- The entries of a group are for one place, from which lines to place b can begin.
pub record IsGroup (p : Problem) (table : List Entry) (b : ℕ) (g : ActiveGroup) : Type 0 where
  pub rises : g.start ≤ g.end
  pub within : g.end ≤ length table
  pub since : last_forced_below p b ≤ g.place
  pub earlier : g.place < b
  pub entries : (k : ℕ) (e : Entry) → g.start ≤ k → k < g.end → slice_get table k ≡ Some e → e.end.place ≡ g.place

-- The entries `from` to `to` have no offers for place b and later places.
abbrev pub IsSilent : (p : Problem) (table : List Entry) (b from to : ℕ) → Type 0
IsSilent p table b from to =
    (k : ℕ) (e : Entry) → from ≤ k → k < to → slice_get table k ≡ Some e → (l : ℕ) → b ≤ l → offer p e k l ≡ None

-- The part of the table from entry `at` on consists of these groups, and the entries between them have no more offers.
abbrev pub IsLive : (p : Problem) (table : List Entry) (b at : ℕ) → List ActiveGroup → Type 0
IsLive p table b at [] = (at ≤ length table) × IsSilent p table b at (length table)
IsLive p table b at (g ∷ groups) = (at ≤ g.start) × IsSilent p table b at g.start × IsGroup p table b g × IsLive p table b g.end groups
