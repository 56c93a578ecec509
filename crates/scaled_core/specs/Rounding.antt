-- Rounding of a quotient of whole numbers (TeX: The Program, part 7).
use Rattle.std.specs.Prelude.{ℕ, ℤ, pos, negsuc, neg_ℤ, suc, unsigned_abs, ◌+◌, ◌*◌, ◌/◌, ◌<◌, ◌≤◌, ◌≤ℤ◌}

-- The whole number q is nearest to n / d, halves upward: q - 1/2 ≤ n / d < q + 1/2 (own).
pub record IsNearest (n d q : ℕ) : Type 0 where
  pub low : 2 * (q * d) ≤ 2 * n + d
  pub high : 2 * n < 2 * (q * d) + d

-- The whole number nearest to n / d, halves upward, for d above 0: the floor of n / d + 1/2 (own).
unfoldable pub nearest : ℕ → ℕ → ℕ
nearest n d = (2 * n + d) / (2 * d)

-- The whole number q is nearest to x / d, halves away from zero: its absolute value is nearest to that of x / d, halves upward, and it has the sign
-- of x or is 0 (own).
pub record IsRounded (x : ℤ) (d : ℕ) (q : ℤ) : Type 0 where
  pub size : IsNearest (unsigned_abs x) d (unsigned_abs q)
  pub above : pos 0 ≤ℤ x → pos 0 ≤ℤ q
  pub below : x ≤ℤ pos 0 → q ≤ℤ pos 0

-- The whole number nearest to x / d, halves away from zero, for d above 0 (own).
unfoldable pub rounded : ℤ → ℕ → ℤ
rounded (pos n) d = pos (nearest n d)
rounded (negsuc n) d = neg_ℤ (pos (nearest (suc n) d))
