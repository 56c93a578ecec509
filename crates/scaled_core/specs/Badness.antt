-- Badness: how badly glue is stretched or shrunk by t, where s is the amount that it can stretch or shrink (TeX: The Program, part 7, §108).
use Rattle.std.specs.Prelude.{◌≡◌, ℕ, ℤ, pos, suc, unsigned_abs, if◌then◌else◌, nat_lt, nat_le, ◌*◌, ◌/◌, ◌^◌, ◌<◌, ◌≤◌, ◌<ℤ◌, ◌≤ℤ◌}
use Rattle.scaled_core.specs.Rounding.{IsNearest, nearest}

-- The ratio r, about 297 t / s, for t and s above 0: rounded down for small t, a quotient by s / 297 for large t and s, and otherwise t itself, which
-- is above 1290 just as 297 t / s is (TeX: The Program, part 7, §108, badness).
unfoldable pub badness_ratio : ℕ → ℕ → ℕ
badness_ratio t s = if nat_le t 7230584 then t * 297 / s else (if nat_le 1663497 s then t / (s / 297) else t)

-- The badness b of a ratio r: the whole number nearest to r ^ 3 / 2 ^ 18, halves upward, and 10000 if r is above 1290 (TeX: The Program, part 7,
-- §108, badness).
pub record IsRatioBadness (r b : ℕ) : Type 0 where
  pub large : 1290 < r → b ≡ 10000
  pub cube : r ≤ 1290 → IsNearest (r * r * r) (2 ^ 18) b

-- The badness b of t for s, for t not below 0: about 100 (t / s) ^ 3, since 297 ^ 3 is about 100 * 2 ^ 18 (TeX: The Program, part 7, §108, badness).
pub record IsBadness (t s : ℤ) (b : ℕ) : Type 0 where
  pub none : t ≡ pos 0 → b ≡ 0
  pub rigid : pos 0 <ℤ t → s ≤ℤ pos 0 → b ≡ 10000
  pub elastic : pos 0 <ℤ t → pos 0 <ℤ s → IsRatioBadness (badness_ratio (unsigned_abs t) (unsigned_abs s)) b

-- The badness of a ratio r, as a function (TeX: The Program, part 7, §108, badness).
unfoldable pub ratio_badness : ℕ → ℕ
ratio_badness r = if nat_lt 1290 r then 10000 else nearest (r * r * r) 262144

-- The badness of t for s, as a function; for t below 0 it is 0 (TeX: The Program, part 7, §108, badness).
unfoldable pub badness_of : ℤ → ℤ → ℕ
badness_of (pos (suc m)) (pos (suc n)) = ratio_badness (badness_ratio (suc m) (suc n))
badness_of (pos (suc m)) _ = 10000
badness_of _ _ = 0
