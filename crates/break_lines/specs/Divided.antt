-- Divided lines: two lines in place of one are together wider by less than an amount (own).
use Rattle.std.specs.Prelude.{◌<◌, ◌≤◌, ◌+ℤ◌, ◌<ℤ◌, ℕ, ℤ}
use Rattle.break_lines.specs.declared.sums.Sums.{Sums}
use Rattle.break_lines.specs.Sizes.{least_width}
use Rattle.break_lines.specs.Facts.{Facts}

-- Two lines together are wider than one line by less than the amount; all three are shrunk as far as they can.
abbrev pub IsLess : (front back whole : Sums) → (amount : ℤ) → Type 0
IsLess front back whole amount = (least_width front +ℤ least_width back) <ℤ (least_width whole +ℤ amount)

-- The line from place a to place b gets wider by less than the amount when it is divided at place m.
abbrev pub AddsLess : Facts → (amount : ℤ) → (a m b : ℕ) → Type 0
AddsLess facts amount a m b = IsLess (facts.sums a m) (facts.sums m b) (facts.sums a b) amount

-- The same holds for every line at every place that it passes over.
abbrev pub IsDivided : Facts → (amount : ℤ) → Type 0
IsDivided facts amount = (a m b : ℕ) → a < m → m < b → b ≤ facts.places → AddsLess facts amount a m b
