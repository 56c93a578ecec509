-- There is exactly one nearest whole number, the one that `nearest` gives, or `rounded` for signed numbers.
use Rattle.std.proofs.Common.{◌≡◌, ℕ, ℤ, pos, negsuc, neg_ℤ, zero, suc, ◌+◌, ◌*◌, ◌/◌, ◌<◌, ◌≤◌, ◌≤ℤ◌, sym, ap, refl, arith, unsigned_abs}
use Rattle.std.proofs.Math.Nat.{div-eq_of_lt, div-eq_of_lt-le, le-div_iff_mul-le, lt-div-mul-add}
use Rattle.std.proofs.lemmas.Int.{ints}
use Rattle.scaled_core.specs.Rounding.{IsNearest, IsRounded, nearest, rounded}

pub nearest-only : (n d q : ℕ) → 0 < d → IsNearest n d q → q ≡ nearest n d
unfolding nearest
nearest-only n d q positive h = sym (div-eq_of_lt-le {k = q} (2 * d) {m = 2 * n + d} (omega (arith, h.low)) (omega (arith, h.high)))

pub nearest-is : (n d : ℕ) → 0 < d → IsNearest n d (nearest n d)
unfolding nearest
nearest-is n d positive =
    let q : ℕ = (2 * n + d) / (2 * d) in
    let below : q * (2 * d) ≤ 2 * n + d = (le-div_iff_mul-le {k = 2 * d} {x = q} {y = 2 * n + d} (omega arith)).0 (omega arith) in
    let above : 2 * n + d < q * (2 * d) + 2 * d = lt-div-mul-add {a = 2 * n + d} {b = 2 * d} (omega arith) in
    record { low = omega arith; high = omega arith }

nearest-zero : (d : ℕ) → 0 < d → nearest 0 d ≡ 0
unfolding nearest
nearest-zero d positive = div-eq_of_lt {n = 2 * 0 + d} {m = 2 * d} (omega arith)

pub rounded-only : (x : ℤ) (d : ℕ) (q : ℤ) → 0 < d → IsRounded x d q → q ≡ rounded x d
unfolding rounded
rounded-only (pos n) d (pos m) positive h = ap pos (nearest-only n d m positive h.size)
rounded-only (pos n) d (negsuc m) positive h = let wrong : pos 0 ≤ℤ negsuc m = h.above (omega (arith, ints)) in absurd (omega (arith, ints))
rounded-only (negsuc n) d (pos m) positive h =
    let low : pos m ≤ℤ pos 0 = h.below (omega (arith, ints)) in
    let none : m ≡ 0 = omega (arith, ints) in
    let e : 0 ≡ nearest (suc n) d = nearest-only (suc n) d 0 positive (rw none at h.size) in
    rw (none, ← e) refl
rounded-only (negsuc n) d (negsuc m) positive h = ap (λ (k : ℕ). neg_ℤ (pos k)) (nearest-only (suc n) d (suc m) positive h.size)

unsigned_abs-neg_ℤ : (k : ℕ) → unsigned_abs (neg_ℤ (pos k)) ≡ k
unsigned_abs-neg_ℤ zero = refl
unsigned_abs-neg_ℤ (suc k) = refl

neg_ℤ-le : (k : ℕ) → neg_ℤ (pos k) ≤ℤ pos 0
neg_ℤ-le k = omega (arith, ints)

pub rounded-is : (x : ℤ) (d : ℕ) → 0 < d → IsRounded x d (rounded x d)
unfolding rounded
rounded-is (pos n) d positive = record {
  size = nearest-is n d positive;
  above = λ _. omega (arith, ints);
  below = λ (h : pos n ≤ℤ pos 0).
      let none : n ≡ 0 = omega (arith, ints) in
      let e : nearest n d ≡ 0 = rw none (nearest-zero d positive) in
      rw e (omega (arith, ints));
}
rounded-is (negsuc n) d positive = record {
  size = rw unsigned_abs-neg_ℤ (nearest-is (suc n) d positive);
  above = λ (h : pos 0 ≤ℤ negsuc n). absurd (omega (arith, ints));
  below = λ _. neg_ℤ-le (nearest (suc n) d);
}
