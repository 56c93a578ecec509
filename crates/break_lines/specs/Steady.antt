-- Steady paragraphs: a line gets no narrower when it goes on to the next place (own).
use Rattle.std.specs.Prelude.{◌<◌, ◌+◌, ◌≤ℤ◌, ◌-ℤ◌, ℕ}
use Rattle.break_lines.specs.declared.sums.Sums.{Sums}
use Rattle.break_lines.specs.Facts.{Facts}

-- A line is at least as wide as another one, both at their natural widths and when they shrink as far as they can.
pub record IsNoNarrower (sums than : Sums) : Type 0 where
  pub width : than.width ≤ℤ sums.width
  pub shrunk : (than.width -ℤ than.shrink) ≤ℤ (sums.width -ℤ sums.shrink)

-- The line from a place to a later one gets no narrower when it goes on to the next place.
abbrev pub IsRising : Facts → (a b : ℕ) → Type 0
IsRising facts a b = IsNoNarrower (facts.sums a (b + 1)) (facts.sums a b)

-- No line gets narrower when it goes on to the next place.
abbrev pub IsSteady : Facts → Type 0
IsSteady facts = (a b : ℕ) → a < b → b < facts.places → IsRising facts a b
