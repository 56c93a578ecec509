-- Exact fractions (own: TeX keeps glue ratios in floating point).
use Rattle.std.specs.Prelude.{ℤ, ◌*ℤ◌, unsigned_abs}
use Rattle.scaled_core.specs.Rounding.{rounded}

-- The fraction num / den, with den above 0 (own).
pub record Fraction : Type 0 where
  pub num : ℤ
  pub den : ℤ

-- A fraction times an amount, rounded to the nearest whole number, halves away from zero (own).
unfoldable pub round_times : Fraction → ℤ → ℤ
round_times f amount = rounded (f.num *ℤ amount) (unsigned_abs f.den)
