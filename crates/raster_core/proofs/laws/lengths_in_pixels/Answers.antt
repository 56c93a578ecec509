use Rattle.std.proofs.Common.{◌≡◌, ℕ, ◌+◌, ◌*◌, ◌/◌, ◌%◌, ◌<◌, ◌≤◌, min, arith, inl, inr, ◌⊎◌}
use Rattle.std.proofs.lemmas.Bool.{cases_lt}
use Rattle.std.proofs.lemmas.Nat.{div-add-mod', mod_below}
use Rattle.raster_core.specs.Pixels.{pixels}
use Rattle.raster_core.proofs.laws.lengths_in_pixels.Goals as goal

-- A quotient with a remainder, rounded up.
rounded_up : (m d q r : ℕ) → q * d + r ≡ m → r < d → (m ≤ d * (q + min 1 r)) × (d * (q + min 1 r) < m + d)
rounded_up m d q r e h = go (cases_lt 0 r)
  where
    go : (0 < r) ⊎ (r ≤ 0) → (m ≤ d * (q + min 1 r)) × (d * (q + min 1 r) < m + d)
    go (inl some) = let one : min 1 r ≡ 1 = omega arith in rw one (omega arith, omega arith)
    go (inr none) = let zero : min 1 r ≡ 0 = omega arith in rw zero (omega arith, omega arith)

pub returns : goal.returns
unfolding pixels
returns c = record {
  long = λ s n h. (rounded_up (n * s.num) s.den (n * s.num / s.den) (n * s.num % s.den) (div-add-mod' (n * s.num) s.den) (mod_below (n * s.num) s.den h)).0;
  least = λ s n h. (rounded_up (n * s.num) s.den (n * s.num / s.den) (n * s.num % s.den) (div-add-mod' (n * s.num) s.den) (mod_below (n * s.num) s.den h)).1;
}
