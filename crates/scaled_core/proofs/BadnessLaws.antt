-- For each t not below 0 and each s there is exactly one badness, the one that `badness_of` gives.
use Rattle.std.proofs.Common.{◌≡◌, ℕ, ℤ, pos, negsuc, zero, suc, ◌*◌, ◌^◌, ◌<◌, ◌≤◌, ◌≤ℤ◌, ⊎_elim, refl, arith}
use Rattle.std.proofs.lemmas.Bool.{cases_lt}
use Rattle.std.proofs.lemmas.Bool.Decides.{nat_tests}
use Rattle.std.proofs.lemmas.Int.{ints}
use Rattle.scaled_core.specs.Rounding.{nearest}
use Rattle.scaled_core.specs.Badness.{IsBadness, IsRatioBadness, badness_of, badness_ratio, ratio_badness}
use Rattle.scaled_core.proofs.RoundingLaws.{nearest-is, nearest-only}

ratio_badness-large : (r : ℕ) → 1290 < r → ratio_badness r ≡ 10000
unfolding ratio_badness
ratio_badness-large r h = grind (arith, nat_tests)

ratio_badness-small : (r : ℕ) → r ≤ 1290 → ratio_badness r ≡ nearest (r * r * r) 262144
unfolding ratio_badness
ratio_badness-small r h = grind (arith, nat_tests)

ratio_badness-only : (r b : ℕ) → IsRatioBadness r b → b ≡ ratio_badness r
ratio_badness-only r b h = ⊎_elim
    (λ (large : 1290 < r). rw (ratio_badness-large r large) (h.large large))
    (λ (small : r ≤ 1290). rw (ratio_badness-small r small) (nearest-only (r * r * r) (2 ^ 18) b (omega arith) (h.cube small)))
    (cases_lt 1290 r)

ratio_badness-is : (r : ℕ) → IsRatioBadness r (ratio_badness r)
ratio_badness-is r = record {
  large = ratio_badness-large r;
  cube = λ (small : r ≤ 1290). rw (ratio_badness-small r small) (nearest-is (r * r * r) (2 ^ 18) (omega arith));
}

pub badness_of-only : (t s : ℤ) (b : ℕ) → pos 0 ≤ℤ t → IsBadness t s b → b ≡ badness_of t s
unfolding badness_of
badness_of-only (pos zero) s b at_least h = h.none refl
badness_of-only (pos (suc m)) (pos zero) b at_least h = h.rigid (omega (arith, ints)) (omega (arith, ints))
badness_of-only (pos (suc m)) (pos (suc n)) b at_least h = ratio_badness-only (badness_ratio (suc m) (suc n)) b (h.elastic (omega (arith, ints)) (omega (arith, ints)))
badness_of-only (pos (suc m)) (negsuc n) b at_least h = h.rigid (omega (arith, ints)) (omega (arith, ints))
badness_of-only (negsuc m) s b at_least h = absurd (omega (arith, ints))

pub badness_of-is : (t s : ℤ) → pos 0 ≤ℤ t → IsBadness t s (badness_of t s)
unfolding badness_of
badness_of-is (pos zero) s at_least = record {
  none = λ _. refl;
  rigid = λ h _. absurd (omega (arith, ints));
  elastic = λ h _. absurd (omega (arith, ints));
}
badness_of-is (pos (suc m)) (pos zero) at_least = record {
  none = λ h. absurd (omega (arith, ints));
  rigid = λ _ _. refl;
  elastic = λ _ h. absurd (omega (arith, ints));
}
badness_of-is (pos (suc m)) (pos (suc n)) at_least = record {
  none = λ h. absurd (omega (arith, ints));
  rigid = λ _ h. absurd (omega (arith, ints));
  elastic = λ _ _. ratio_badness-is (badness_ratio (suc m) (suc n));
}
badness_of-is (pos (suc m)) (negsuc n) at_least = record {
  none = λ h. absurd (omega (arith, ints));
  rigid = λ _ _. refl;
  elastic = λ _ h. absurd (omega (arith, ints));
}
badness_of-is (negsuc m) s at_least = absurd (omega (arith, ints))
