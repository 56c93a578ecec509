-- Even paragraphs: a line that begins at a later place is no wider, and stretches no more (own).
use Rattle.std.specs.Prelude.{◌<◌, ◌≤◌, ◌≤ℤ◌, ℕ, pos}
use Rattle.break_lines.specs.declared.sums.Sums.{Sums}
use Rattle.break_lines.specs.Facts.{Facts}

-- A line is at least as wide as another one, and stretches at least as much in each order.
pub record Covers (whole part : Sums) : Type 0 where
  pub width : part.width ≤ℤ whole.width
  pub stretch : part.stretch ≤ℤ whole.stretch
  pub fil : part.fil ≤ℤ whole.fil
  pub fill : part.fill ≤ℤ whole.fill
  pub filll : part.filll ≤ℤ whole.filll

-- The stretch of no infinite order is negative.
pub record HasNoNegativeFil (sums : Sums) : Type 0 where
  pub fil : pos 0 ≤ℤ sums.fil
  pub fill : pos 0 ≤ℤ sums.fill
  pub filll : pos 0 ≤ℤ sums.filll

-- Of two lines to a place, the one that begins earlier covers the other one; and in no line is the stretch of an infinite order negative.
pub record IsEven (facts : Facts) : Type 0 where
  pub covers : (a m l : ℕ) → a < m → m < l → l ≤ facts.places → Covers (facts.sums a l) (facts.sums m l)
  pub fils : (a l : ℕ) → a < l → l ≤ facts.places → HasNoNegativeFil (facts.sums a l)
