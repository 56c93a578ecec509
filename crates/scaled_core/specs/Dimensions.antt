-- Dimensions: whole numbers of scaled points (TeX: The Program, part 7).
use Rattle.std.specs.Prelude.{ℕ, ℤ, Bool, pos, neg_ℤ, unsigned_abs, nat_le, if◌then◌else◌, Option, Some, None, ◌≤ℤ◌}

-- The absolute value of z is at most n (own).
pub record Within (n : ℕ) (z : ℤ) : Type 0 where
  pub low : neg_ℤ (pos n) ≤ℤ z
  pub high : z ≤ℤ pos n

-- A dimension fits: its absolute value is below 2^30 scaled points (TeX: The Program, part 7; part 26, §421, max_dimen).
abbrev pub Fits : ℤ → Type 0
Fits z = Within 1073741823 z

-- Whether a number fits as a dimension: `Fits` as a test (TeX: The Program, part 7; part 26, §421, max_dimen).
abbrev pub fits : ℤ → Bool
fits z = nat_le (unsigned_abs z) 1073741823

-- The dimension of a number of scaled points, if it fits (own).
unfoldable pub dimension_of : ℤ → Option ℤ
dimension_of z = if fits z then Some z else None
