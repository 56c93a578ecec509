-- A problem with fewer lines (own).
use Rattle.std.specs.Prelude.{◌≡◌, ◌<◌, ◌≤◌, ◌+ℤ◌, ◌<ℤ◌, ◌≤ℤ◌, ℕ, Bool, true, false, if◌then◌else◌, Some, None}
use Rattle.break_lines.specs.declared.state.BreakState.{BreakState}
use Rattle.break_lines.specs.declared.state.LineCost.{LineCost}
use Rattle.break_lines.specs.Problems.{Problem, end_after}
use Rattle.break_lines.specs.Ways.{last_forced_below}

-- The problem without the lines that are left out.
abbrev pub problem_without : Problem → (left_out : BreakState → ℕ → Bool) → Problem
problem_without p left_out =
    record { places = p.places; forced = p.forced; cut = p.cut; line = λ s b. if left_out s b then None else p.line s b }

-- The line from state s has at most the overhang of line l from state t, and it leads again to a state that is as good.
pub record IsNoWorse (p : Problem) (IsAsGood : BreakState → BreakState → Type 0) (s t : BreakState) (b : ℕ) (l : LineCost) : Type 0 where
  pub line : LineCost
  pub is : p.line s b ≡ Some line
  pub less : line.overhang ≤ℤ l.overhang
  pub as_good : IsAsGood (end_after p.cut s b line) (end_after p.cut t b l)

-- An order of the states of a place: no line from a state that is as good has a greater overhang.
pub record IsOrder (p : Problem) (IsAsGood : BreakState → BreakState → Type 0) : Type 0 where
  pub same : (s : BreakState) → IsAsGood s s
  pub joined : (s t u : BreakState) → IsAsGood s t → IsAsGood t u → IsAsGood s u
  pub place : (s t : BreakState) → IsAsGood s t → s.place ≡ t.place
  pub line : (s t : BreakState) (b : ℕ) (l : LineCost) → IsAsGood s t → p.line t b ≡ Some l → IsNoWorse p IsAsGood s t b l

-- Two lines that replace a line: their overhang is less together, and the first one is not left out.
pub record IsDetour (p : Problem) (left_out : BreakState → ℕ → Bool) (IsAsGood : BreakState → BreakState → Type 0) (s : BreakState) (b : ℕ)
    (l : LineCost) : Type 0 where
  pub by : ℕ
  pub later : s.place < by
  pub before : by < b
  pub first : LineCost
  pub first_is : p.line s by ≡ Some first
  pub kept : left_out s by ≡ false
  pub second : LineCost
  pub second_is : p.line (end_after p.cut s by first) b ≡ Some second
  pub less : (first.overhang +ℤ second.overhang) <ℤ l.overhang
  pub as_good : IsAsGood (end_after p.cut (end_after p.cut s by first) b second) (end_after p.cut s b l)

-- Each line that is left out has a detour.
abbrev pub HasDetours : (p : Problem) (left_out : BreakState → ℕ → Bool) (IsAsGood : BreakState → BreakState → Type 0) → Type 0
HasDetours p left_out IsAsGood =
    (s : BreakState) (b : ℕ) (l : LineCost)
    → s.place < b → last_forced_below p b ≤ s.place → b ≤ p.places → p.line s b ≡ Some l → left_out s b ≡ true → IsDetour p left_out IsAsGood s b l
