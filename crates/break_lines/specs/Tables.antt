-- The table of the best ways so far, with one entry for each state that can be reached (own; `IsSmallLine` bounds the costs of a line).
use Rattle.std.specs.Prelude.{◌≡◌, ◌<◌, ◌≤◌, ◌⊎◌, ◌+◌, ◌*◌, ◌^◌, ◌+ℤ◌, ◌++◌, ℕ, ℤ, pos, nat_le, if◌then◌else◌, List, [], ◌∷◌, length, slice_get}
use Rattle.std.specs.Prelude.{set, Option, Some, None}
use Rattle.scaled_core.specs.Dimensions.{Within}
use Rattle.break_lines.specs.declared.state.BreakState.{BreakState}
use Rattle.break_lines.specs.declared.state.LineCost.{LineCost}
use Rattle.break_lines.specs.Orders.{NotAfter}
use Rattle.break_lines.specs.Problems.{Problem, Path, class_index, start, end_after, with_line, tie_numbers}
use Rattle.break_lines.specs.Ways.{last_forced_below, Way, IsLeast}

-- An entry: a state, the costs of the best way to it, the state before it, and the number of the entry for that state.
pub record Entry : Type 0 where
  pub end : BreakState
  pub overhang : ℤ
  pub demerits : ℤ
  pub from : BreakState
  pub index : ℕ

-- The greatest overhang of a line, in scaled points.
abbrev pub max_overhang : ℕ
max_overhang = 3 * 2 ^ 48 + 2 ^ 31

-- The costs of a line are so small that the totals for the greatest number of lines are below 2 ^ 63.
pub record IsSmallLine (line : LineCost) : Type 0 where
  pub overhang : Within max_overhang line.overhang
  pub demerits : Within (2 ^ 30) line.demerits

-- The entry for the start.
abbrev pub first_entry : Entry
first_entry = record { end = start; overhang = pos 0; demerits = pos 0; from = start; index = 0 }

-- An entry extended by a line to a place.
abbrev pub extended_entry : (cut : ℕ) → Entry → (index place : ℕ) → LineCost → Entry
extended_entry cut e index place line =
    record {
      end = end_after cut e.end place line;
      overhang = e.overhang +ℤ line.overhang;
      demerits = e.demerits +ℤ line.demerits;
      from = e.end;
      index = index;
    }

-- The numbers by which entries for one place are compared.
abbrev pub compared_numbers : Entry → List ℤ
compared_numbers e = e.overhang ∷ e.demerits ∷ tie_numbers (e.end ∷ e.from ∷ [])

-- State s comes before state t in the order, whatever follows them.
abbrev pub IsFirst : BreakState → BreakState → Type 0
IsFirst s t = (xs ys : List ℤ) → NotAfter (tie_numbers (s ∷ []) ++ xs) (tie_numbers (t ∷ []) ++ ys)

-- The slot of a state in the row of its place.
abbrev pub slot : BreakState → ℕ
slot s = 4 * s.lines + class_index s.class

-- The number of slots in a row.
abbrev pub slots : (cut : ℕ) → ℕ
slots cut = 4 * (cut + 1)

-- An entry has the costs of the best way to the state before it and of an admitted line from there.
pub record ExtendsLeastWay (p : Problem) (e : Entry) : Type 0 where
  pub before : Path
  pub line : LineCost
  pub least : IsLeast p e.from before
  pub admitted : p.line e.from e.end.place ≡ Some line
  pub later : e.from.place < e.end.place
  pub since : last_forced_below p e.end.place ≤ e.from.place
  pub end : e.end ≡ end_after p.cut e.from e.end.place line
  pub overhang : e.overhang ≡ before.overhang +ℤ line.overhang
  pub demerits : e.demerits ≡ before.demerits +ℤ line.demerits

-- The way of an entry.
abbrev pub way_to : (p : Problem) (e : Entry) → ExtendsLeastWay p e → Path
way_to p e r = with_line p r.before e.end.place r.line

-- The entry before this one is in the table.
pub record IsLinked (table : List Entry) (e : Entry) : Type 0 where
  pub before : Entry
  pub present : slice_get table e.index ≡ Some before
  pub same : before.end ≡ e.from

-- Entry k is the entry of the best way to its state.
pub record IsBest (p : Problem) (table : List Entry) (k : ℕ) (e : Entry) : Type 0 where
  pub reached : ExtendsLeastWay p e
  pub least : IsLeast p e.end (way_to p e reached)
  pub linked : IsLinked table e
  pub earlier : e.index < k

-- The table has an entry for each state that can be reached at a place below b.
pub record IsTable (p : Problem) (b : ℕ) (table : List Entry) : Type 0 where
  pub first : slice_get table 0 ≡ Some first_entry
  pub best : (k : ℕ) (e : Entry) → 0 < k → slice_get table k ≡ Some e → IsBest p table k e
  pub below : (k : ℕ) (e : Entry) → slice_get table k ≡ Some e → (e.end.place < b) × (e.end.lines ≤ p.cut)
  pub whole : (w : Path) → Way p w → w.last.place < b → (k : ℕ) × (e : Entry) × (slice_get table k ≡ Some e) × (e.end ≡ w.last)

-- Entry k extended by a line to a place, if there is a line.
abbrev pub offer_of : (cut : ℕ) → Entry → (k b : ℕ) → Option LineCost → Option Entry
offer_of cut e k b None = None
offer_of cut e k b (Some line) = Some (extended_entry cut e k b line)

-- The offer of entry k for a place: the entry extended, if its line is admitted and passes over no forced place.
abbrev pub offer : Problem → Entry → (k b : ℕ) → Option Entry
offer p e k b = if nat_le (last_forced_below p b) e.end.place then offer_of p.cut e k b (p.line e.end b) else None

-- Entry k offers this entry for a place.
pub record IsOffered (p : Problem) (table : List Entry) (b k : ℕ) (o : Entry) : Type 0 where
  pub by : Entry
  pub present : slice_get table k ≡ Some by
  pub offers : offer p by k b ≡ Some o

-- The content of slot s: an offer for a state of this slot, from an entry below number n.
pub record IsHeld (p : Problem) (table : List Entry) (b n s : ℕ) (o : Entry) : Type 0 where
  pub k : ℕ
  pub below : k < n
  pub offered : IsOffered p table b k o
  pub here : slot o.end ≡ s

-- The row has an entry for the same state that is as good as this offer or better.
pub record IsMet (row : List (Option Entry)) (o : Entry) : Type 0 where
  pub held : Entry
  pub present : slice_get row (slot o.end) ≡ Some (Some held)
  pub same : held.end ≡ o.end
  pub before : NotAfter (compared_numbers held) (compared_numbers o)

-- The row of a place after the offers of the first n entries: for each state it holds the best offer.
pub record IsRow (p : Problem) (table : List Entry) (b n : ℕ) (row : List (Option Entry)) : Type 0 where
  pub wide : length row ≡ slots p.cut
  pub held : (s : ℕ) (o : Entry) → slice_get row s ≡ Some (Some o) → IsHeld p table b n s o
  pub met : (k : ℕ) (o : Entry) → k < n → IsOffered p table b k o → IsMet row o

-- The better one of an offer and the content of a slot, which is kept.
pub record IsKept (old : Option Entry) (o r : Entry) : Type 0 where
  pub is : (r ≡ o) ⊎ (old ≡ Some r)
  pub offered : NotAfter (compared_numbers r) (compared_numbers o)
  pub older : (h : Entry) → old ≡ Some h → NotAfter (compared_numbers r) (compared_numbers h)

-- The step from one row to another: an offer is put into its slot, unless the slot holds one that is as good or better.
pub record IsPut (o : Entry) (old new : List (Option Entry)) : Type 0 where
  pub held : Option Entry
  pub was_present : slice_get old (slot o.end) ≡ Some held
  pub kept : Entry
  pub is_kept : IsKept held o kept
  pub is : new ≡ set old (slot o.end) (Some kept)

-- The entries in a row, in the order of its slots.
abbrev pub row_entries : List (Option Entry) → List Entry
row_entries [] = []
row_entries (None ∷ row) = row_entries row
row_entries (Some e ∷ row) = e ∷ row_entries row

-- The step from one row to another: entry number `index` was offered for a place, by this line of its own, for every problem and table.
abbrev pub IsImproved : (cut : ℕ) (entry : Entry) (index place : ℕ) (line : Option LineCost) (old new : List (Option Entry)) → Type 0
IsImproved cut entry index place line old new =
    (p : Problem) (table : List Entry) → p.cut ≡ cut → slice_get table index ≡ Some entry → last_forced_below p place ≤ entry.end.place
    → p.line entry.end place ≡ line → IsRow p table place index old → IsRow p table place (index + 1) new

-- The list of entries is a table of some problem.
abbrev pub IsSomeTable : List Entry → Type 0
IsSomeTable table = (p : Problem) × (b : ℕ) × IsTable p b table
