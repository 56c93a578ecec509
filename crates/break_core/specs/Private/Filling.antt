-- The table of a paragraph while it is filled, place by place (own).
use Rattle.std.specs.Prelude.{◌≡◌, ◌<◌, ◌≤◌, ◌+◌, ◌^◌, ◌<ℤ◌, ℕ, ℤ, pos, Bool, true, false, List, length, slice_get, Option, Some, None, if◌then◌else◌}
use Rattle.node_core.specs.declared.params.Params.{Params}
use Rattle.break_lines.specs.declared.group.ActiveGroup.{ActiveGroup}
use Rattle.break_lines.specs.declared.state.BreakState.{BreakState}
use Rattle.break_lines.specs.Problems.{Problem, max_places}
use Rattle.break_lines.specs.Ways.{last_forced_below}
use Rattle.break_lines.specs.Orders.{NotAfter}
use Rattle.break_lines.specs.Tables.{Entry, slots, extended_entry, compared_numbers, IsRow}
use Rattle.break_lines.specs.declared.state.LineCost.{LineCost}
use Rattle.break_lines.specs.declared.answer.ChosenBreaks.{ChosenBreaks}
use Rattle.break_lines.specs.Chosen.{AdmitsNone, IsAnswer}
use Rattle.break_core.specs.declared.broken.Pass.{Pass}
use Rattle.break_lines.specs.declared.sizes.LineFits.{LineFits}
use Rattle.break_lines.specs.declared.cost.Bound.{Bound}
use Rattle.break_lines.specs.Costs.{line_fit, admitted_line, line_after}
use Rattle.break_lines.specs.SmallCosts.{IsSmallSums, IsSmallLineFit}
use Rattle.break_core.specs.declared.offering.JudgedLine.{JudgedLine}
use Rattle.break_lines.specs.Sizes.{fit_after}
use Rattle.break_lines.specs.Facts.{Facts}
use Rattle.break_core.specs.Passes.{problem_of, bound_of, IsBefore}

-- Whether lines are counted.
abbrev pub IsKind : (counted : Bool) → (first_lines : ℕ) → Type 0
IsKind true first_lines = 0 < first_lines
IsKind false first_lines = first_lines ≡ 0

-- A line was judged for the line size from the second line on.
pub record IsJudged (params : Params) (line : JudgedLine) : Type 0 where
  pub fit : line.fit ≡ line_fit line.sums params.hsize
  pub sums_bounded : IsSmallSums line.sums
  pub fit_bounded : IsSmallLineFit line.fit

-- The entries of a group have its place, and at most `cut` lines are counted in them.
abbrev pub IsOf : (cut : ℕ) (table : List Entry) → ActiveGroup → Type 0
IsOf cut table group =
    (k : ℕ) (e : Entry) → group.start ≤ k → k < group.end → slice_get table k ≡ Some e → (e.end.place ≡ group.place) × (e.end.lines ≤ cut)

-- The lines of a problem from the place of a group to another place are those of this judgement.
abbrev pub IsFitOf : Problem → Params → Bound → ActiveGroup → (place : ℕ) → (penalty : ℤ) → LineFits → Type 0
IsFitOf p params bound group place penalty line =
    (s : BreakState) → s.place ≡ group.place
    → p.line s place ≡ admitted_line params bound penalty s.class (fit_after params.first_lines s.lines line)

-- The step from one row to another: the entries `from` to `to` were offered by lines of this judgement.
abbrev pub IsOffering :
    (table : List Entry) → Params → Bound → ActiveGroup → (place : ℕ) → (penalty : ℤ) → LineFits → (from to : ℕ) → (old new : List (Option Entry))
    → Type 0
IsOffering table params bound group place penalty line from to old new =
    (p : Problem) → p.cut ≡ params.first_lines → last_forced_below p place ≤ group.place → IsFitOf p params bound group place penalty line
    → IsRow p table place from old → IsRow p table place to new

-- The same step for all entries of a group, where the line may be left out.
abbrev pub IsOfferingUnless :
    (left_out : Bool) (table : List Entry) → Params → Bound → ActiveGroup → (place : ℕ) → (penalty : ℤ) → LineFits → (old new : List (Option Entry))
    → Type 0
IsOfferingUnless left_out table params bound group place penalty line old new =
    (p : Problem) → p.cut ≡ params.first_lines → last_forced_below p place ≤ group.place
    → ((s : BreakState) → s.place ≡ group.place
    → p.line s place ≡ (if left_out then None else admitted_line params bound penalty s.class (fit_after params.first_lines s.lines line)))
    → IsRow p table place group.start old → IsRow p table place group.end new

-- The entries of a group can be offered by a line to a place with this penalty.
pub record CanOffer (first_lines : ℕ) (row : List (Option Entry)) (table : List Entry) (group : ActiveGroup) (place : ℕ) (penalty : ℤ) : Type 0 where
  pub wide : length row ≡ slots first_lines
  pub rises : group.start ≤ group.end
  pub within : group.end ≤ length table
  pub earlier : group.place < place
  pub places : place ≤ max_places
  pub entries : IsOf first_lines table group
  pub penalty_bounded : penalty <ℤ pos 10000

-- The offer of an entry for a place by a line, if no lines are counted: the line with the demerits for the class of the line before it.
abbrev pub offer_from : Params → Entry → (index place : ℕ) → (alone : LineCost) → Entry
offer_from params e index place alone = extended_entry 0 e index place (line_after params e.end.class alone)

-- The best one of these offers of the entries `from` to `to`.
pub record IsBestOffer (table : List Entry) (params : Params) (place : ℕ) (alone : LineCost) (from to : ℕ) (best : Entry) : Type 0 where
  pub by : ℕ
  pub low : from ≤ by
  pub high : by < to
  pub entry : Entry
  pub present : slice_get table by ≡ Some entry
  pub is : best ≡ offer_from params entry by place alone
  pub least :
      (k : ℕ) (e : Entry) → from ≤ k → k < to → slice_get table k ≡ Some e
      → NotAfter (compared_numbers best) (compared_numbers (offer_from params e k place alone))

-- The step from one row to another: the entries of a group were offered by a line, if no lines are counted.
abbrev pub IsOfferingBest : (table : List Entry) → Params → ActiveGroup → (place : ℕ) → (alone : LineCost) → (old new : List (Option Entry)) → Type 0
IsOfferingBest table params group place alone old new =
    (p : Problem) → p.cut ≡ 0 → last_forced_below p place ≤ group.place
    → ((s : BreakState) → s.place ≡ group.place → p.line s place ≡ Some (line_after params s.class alone))
    → IsRow p table place group.start old → IsRow p table place group.end new

-- Each count has grown by at most n.
abbrev pub IsGrown : (n : ℕ) → (before now : ℕ → ℕ) → Type 0
IsGrown n before now = (place : ℕ) → now place ≤ before place + n

-- Each count can grow by n.
abbrev pub CountsMayGrow : (n : ℕ) → (counts : ℕ → ℕ) → Type 0
CountsMayGrow n counts = (place : ℕ) → counts place + n ≤ 2 ^ 40

-- These are ends of lines at places of the paragraph.
abbrev pub AreEndsInParagraph : Facts → List BreakState → Type 0
AreEndsInParagraph facts ends = (k : ℕ) (s : BreakState) → slice_get ends k ≡ Some s → (0 < s.place) × (s.place ≤ facts.places)

-- A pass is the first that admits a list, and this list is chosen in it.
pub record IsDecided (facts : Facts) (params : Params) (pass : Pass) (least : ChosenBreaks) : Type 0 where
  pub answer : IsAnswer (problem_of facts params (bound_of params pass)) least
  pub earlier : (other : Pass) → IsBefore other pass → AdmitsNone (problem_of facts params (bound_of params other))
