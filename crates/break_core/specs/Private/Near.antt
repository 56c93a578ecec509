-- What is stored of neighbouring groups, if lines are counted (own).
use Rattle.std.specs.Prelude.{◌≡◌, ◌<◌, ◌≤◌, ◌⊎◌, ◌<ℤ◌, ◌≤ℤ◌, ℕ, List, length, slice_get, Some}
use Rattle.break_lines.specs.declared.group.ActiveGroup.{ActiveGroup}
use Rattle.break_lines.specs.Orders.{NotAfter}
use Rattle.break_lines.specs.Tables.{Entry, compared_numbers}
use Rattle.break_core.specs.declared.neighbours.Neighbours.{Neighbours}

-- A group has an entry for the lines and the class of this entry that is as good or better.
pub record HasMeeting (table : List Entry) (by : ActiveGroup) (e : Entry) : Type 0 where
  pub index : ℕ
  pub low : by.start ≤ index
  pub high : index < by.end
  pub entry : Entry
  pub present : slice_get table index ≡ Some entry
  pub lines : entry.end.lines ≡ e.end.lines
  pub class : entry.end.class ≡ e.end.class
  pub as_good : NotAfter (compared_numbers entry) (compared_numbers e)

-- A group has such an entry for each one of another group.
pub record IsMetBy (table : List Entry) (group by : ActiveGroup) : Type 0 where
  pub within : group.end ≤ length table
  pub each : (k : ℕ) (e : Entry) → group.start ≤ k → k < group.end → slice_get table k ≡ Some e → HasMeeting table by e

-- The totals of an entry are at most those of another one.
abbrev pub AreAtMost : Entry → Entry → Type 0
AreAtMost a b = (a.overhang <ℤ b.overhang) ⊎ ((a.overhang ≡ b.overhang) × (a.demerits ≤ℤ b.demerits))

-- A group has an entry for the lines and the class of this entry whose totals are at most as great.
pub record HasCover (table : List Entry) (by : ActiveGroup) (e : Entry) : Type 0 where
  pub index : ℕ
  pub low : by.start ≤ index
  pub high : index < by.end
  pub entry : Entry
  pub present : slice_get table index ≡ Some entry
  pub lines : entry.end.lines ≡ e.end.lines
  pub class : entry.end.class ≡ e.end.class
  pub at_most : AreAtMost entry e

-- A group has such an entry for each one of another group.
pub record IsCoveredBy (table : List Entry) (group by : ActiveGroup) : Type 0 where
  pub within : group.end ≤ length table
  pub each : (k : ℕ) (e : Entry) → group.start ≤ k → k < group.end → slice_get table k ≡ Some e → HasCover table by e

-- Of the groups that are stored with a group one is met by it, and one covers it.
abbrev pub HasNeighbours : (table : List Entry) → Neighbours → Type 0
HasNeighbours table near = IsMetBy table near.meets near.group × IsCoveredBy table near.group near.covered_by

-- The same for each element of a list.
abbrev pub HaveNeighbours : (table : List Entry) → List Neighbours → Type 0
HaveNeighbours table list = (k : ℕ) (near : Neighbours) → slice_get list k ≡ Some near → HasNeighbours table near
