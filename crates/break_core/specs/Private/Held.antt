-- The row of a place while the offers of a group are held back (own).
use Rattle.std.specs.Prelude.{◌≡◌, ◌<◌, ◌≤◌, ◌⊎◌, ◌<ℤ◌, ℕ, ℤ, false, List, Option, Some, None, if◌then◌else◌}
use Rattle.node_core.specs.declared.params.Params.{Params}
use Rattle.break_lines.specs.declared.group.ActiveGroup.{ActiveGroup}
use Rattle.break_lines.specs.declared.state.BreakState.{BreakState}
use Rattle.break_lines.specs.declared.state.LineCost.{LineCost}
use Rattle.break_lines.specs.declared.state.Fitness.{Fitness}
use Rattle.break_lines.specs.declared.sizes.LineFits.{LineFits}
use Rattle.break_lines.specs.declared.cost.Bound.{Bound}
use Rattle.break_lines.specs.Costs.{admitted_line}
use Rattle.break_lines.specs.Sizes.{fit_after, IsSmallLineFits}
use Rattle.break_lines.specs.Orders.{NotAfter}
use Rattle.break_lines.specs.Problems.{Problem}
use Rattle.break_lines.specs.Ways.{last_forced_below}
use Rattle.break_lines.specs.Tables.{Entry, compared_numbers, IsOffered, IsRow}
use Rattle.break_core.specs.declared.counted.HeldLine.{HeldLine}
use Rattle.break_core.specs.declared.neighbours.Neighbours.{Neighbours}
use Rattle.break_core.specs.Private.Near.{IsCoveredBy}
use Rattle.break_core.specs.Private.Filling.{CanOffer, IsOfferingUnless}

-- The offers by a line that is held back are met by those by the next line, whose group meets this group.
abbrev pub IsSkipped : Option HeldLine → (next : HeldLine) → (meets : ActiveGroup) → Type 0
IsSkipped None next meets = ⊥
IsSkipped (Some held) next meets = (next.left_out ≡ false) × (meets ≡ held.group) × (held.line ≡ next.line)

-- The step from one row to another: the entries were offered by the line that was held back, if there is one.
abbrev pub IsHeldOffered :
    (table : List Entry) → Params → Bound → (place : ℕ) → (penalty : ℤ) → Option HeldLine → (old new : List (Option Entry)) → Type 0
IsHeldOffered table params bound place penalty None old new = new ≡ old
IsHeldOffered table params bound place penalty (Some held) old new =
    IsOfferingUnless held.left_out table params bound held.group place penalty held.line old new

-- The first of two lines costs less than the second, whose class it has, or the second is not admitted.
abbrev pub IsCostBelow : (a b : Option LineCost) → Type 0
IsCostBelow a None = Unit {0}
IsCostBelow None (Some b) = ⊥
IsCostBelow (Some a) (Some b) =
    (a.class ≡ b.class) × ((a.overhang <ℤ b.overhang) ⊎ ((a.overhang ≡ b.overhang) × (a.demerits <ℤ b.demerits)))

-- The same for judgements, after any number of lines and a line of any class.
abbrev pub AreBelow : Params → Bound → (penalty : ℤ) → (a b : LineFits) → Type 0
AreBelow params bound penalty a b =
    (lines : ℕ) (before : Fitness)
    → IsCostBelow (admitted_line params bound penalty before (fit_after params.first_lines lines a))
    (admitted_line params bound penalty before (fit_after params.first_lines lines b))

-- The offers by the next line are met by those by a line that is held back: its group is covered by the last one that was dropped, and its line costs
-- more.
abbrev pub IsDropped : Params → Bound → (penalty : ℤ) → Option HeldLine → (next : HeldLine) → (covered_by : ActiveGroup) → Type 0
IsDropped params bound penalty None next covered_by = ⊥
IsDropped params bound penalty (Some held) next covered_by =
    (held.left_out ≡ false) × (covered_by ≡ held.last) × AreBelow params bound penalty held.line next.line

-- The line that is held back, when the line from this group was dropped.
abbrev pub held_beyond : Option HeldLine → ActiveGroup → Option HeldLine
held_beyond None last = None
held_beyond (Some held) last = Some (record { group = held.group; left_out = held.left_out; line = held.line; last = last })

-- The step to the next line: the line that was held back is passed over, or the next one is dropped, or the entries are offered.
abbrev pub IsHolding :
    (table : List Entry) → Params → Bound → (place : ℕ) → (penalty : ℤ) → Neighbours → (next : HeldLine) → (held now : Option HeldLine)
    → (old new : List (Option Entry)) → Type 0
IsHolding table params bound place penalty near next held now old new =
    (IsSkipped held next near.meets × (now ≡ Some next) × (new ≡ old))
    ⊎ ((IsDropped params bound penalty held next near.covered_by × (now ≡ held_beyond held next.group) × (new ≡ old))
    ⊎ ((now ≡ Some next) × IsHeldOffered table params bound place penalty held old new))

-- One of the entries `from` to `to` has an offer for the state of this one that is as good or better.
pub record IsMetWithin (p : Problem) (table : List Entry) (b from to : ℕ) (o : Entry) : Type 0 where
  pub index : ℕ
  pub low : from ≤ index
  pub high : index < to
  pub other : Entry
  pub offered : IsOffered p table b index other
  pub same : other.end ≡ o.end
  pub before : NotAfter (compared_numbers other) (compared_numbers o)

-- The entries below number n that have offers for place b are at places below `low`.
abbrev pub AreEarlier : (p : Problem) (table : List Entry) (b n low : ℕ) → Type 0
AreEarlier p table b n low = (k : ℕ) (o : Entry) → k < n → (offered : IsOffered p table b k o) → offered.by.end.place < low

-- The row of a place after the offers of the first n entries, but for those of a group, which are held back, and for those that they meet: without
-- lines from some places before the group it is the row before the group.
pub record IsRowBut (p : Problem) (table : List Entry) (b : ℕ) (g : ActiveGroup) (n : ℕ) (row : List (Option Entry)) : Type 0 where
  pub q : Problem
  pub cut : q.cut ≡ p.cut
  pub since : last_forced_below q b ≡ last_forced_below p b
  pub same : (s : BreakState) → g.place ≤ s.place → q.line s b ≡ p.line s b
  pub fewer : (s : BreakState) (l : LineCost) → q.line s b ≡ Some l → p.line s b ≡ Some l
  pub front : IsRow q table b g.start row
  pub met :
      (k : ℕ) (o : Entry) → k < n → IsOffered p table b k o
      → ((k < g.start) × IsOffered q table b k o) ⊎ IsMetWithin p table b g.start g.end o
  pub earlier : AreEarlier p table b g.start g.place
  pub later : (k : ℕ) (o : Entry) → g.start ≤ k → k < n → (offered : IsOffered p table b k o) → g.place ≤ offered.by.end.place
  pub rises : g.start ≤ g.end
  pub within : g.end ≤ n

-- The same, for a line that is held back and can be offered, from a place below `low`.
pub record IsHeldBack
    (p : Problem) (params : Params) (bound : Bound) (table : List Entry) (b : ℕ) (penalty : ℤ) (held : HeldLine) (n low : ℕ)
    (row : List (Option Entry)) : Type 0 where
  pub but : IsRowBut p table b held.group n row
  pub can : CanOffer params.first_lines row table held.group b penalty
  pub since : last_forced_below p b ≤ held.group.place
  pub before : held.group.place < low
  pub line :
      (s : BreakState) → s.place ≡ held.group.place
      → p.line s b ≡ (if held.left_out then None else admitted_line params bound penalty s.class (fit_after params.first_lines s.lines held.line))
  pub fit_bounded : IsSmallLineFits held.line
  pub covers : IsCoveredBy table held.last held.group

-- The row of a place after the offers of the first n entries, of which the last may be held back.
abbrev pub IsRowUpTo :
    (p : Problem) → Params → Bound → (table : List Entry) → (b : ℕ) → (penalty : ℤ) → Option HeldLine → (n low : ℕ) → (row : List (Option Entry))
    → Type 0
IsRowUpTo p params bound table b penalty None n low row = IsRow p table b n row
IsRowUpTo p params bound table b penalty (Some held) n low row = IsHeldBack p params bound table b penalty held n low row
