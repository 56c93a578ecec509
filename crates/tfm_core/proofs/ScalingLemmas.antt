-- The bits of a size that are cleared, and the floor of the product.
use Rattle.std.proofs.Common.{◌≡◌, ℕ, ℤ, pos, negsuc, ◌+◌, ◌^◌, ◌<◌, ◌≤◌, ◌+ℤ◌, ◌*ℤ◌, ◌≤ℤ◌, ◌<ℤ◌, ◌↔◌, ◌-◌, ◌%◌, ap, subst, refl, ⊎_elim, arith, unsigned_abs, ◌∙◌, to_z, of_z, SFits, w64}
use Rattle.std.proofs.lemmas.Bool.{cases_lt, lt-ltb, le-ltb}
use Rattle.std.proofs.lemmas.Int.{ints, to_z-of_z}
use Rattle.std.proofs.Math.Nat.{pow-le-pow_right}
use Rattle.std.specs.Int.{int_div_euclid}
use Rattle.tfm_core.specs.Scaling.{IsFontSize, IsCleared, IsScaled, cleared_bits, kept_size, scaled}

power_least : (size k i : ℕ) → i < k → 2 ^ (22 + k) ≤ size → 2 ^ (23 + i) ≤ size
power_least size k i h p =
    let below : 2 ^ (23 + i) ≤ 2 ^ (22 + k) = pow-le-pow_right {n = 2} (omega arith) {i = 23 + i} {j = 22 + k} (omega arith) in
    omega arith

cleared_from : (size j : ℕ) → size < 2 ^ (23 + j) → 2 ^ (22 + j) ≤ size → IsCleared size j
cleared_from size j below above = record { below = below; least = λ i h. power_least size j i h above }

-- The number of bits in the table is the least.
pub IsCleared-cleared_bits : (size : ℕ) → size < 2 ^ 27 → IsCleared size (cleared_bits size)
unfolding cleared_bits
IsCleared-cleared_bits size fits =
    ⊎_elim
    (λ (h : size < 2 ^ 23). let e = lt-ltb size _ h in rw e (record { below = h; least = λ i l. absurd (omega arith) }))
    (λ (a : 2 ^ 23 ≤ size). let ea = le-ltb size _ a in rw ea (⊎_elim
    (λ (h : size < 2 ^ 24). let e = lt-ltb size _ h in rw e (cleared_from size 1 h a))
    (λ (b : 2 ^ 24 ≤ size). let eb = le-ltb size _ b in rw eb (⊎_elim
    (λ (h : size < 2 ^ 25). let e = lt-ltb size _ h in rw e (cleared_from size 2 h b))
    (λ (c : 2 ^ 25 ≤ size). let ec = le-ltb size _ c in rw ec (⊎_elim
    (λ (h : size < 2 ^ 26). let e = lt-ltb size _ h in rw e (cleared_from size 3 h c))
    (λ (d : 2 ^ 26 ≤ size). let ed = le-ltb size _ d in rw ed (cleared_from size 4 fits d))
    (cases_lt size (2 ^ 26))))
    (cases_lt size (2 ^ 25))))
    (cases_lt size (2 ^ 24))))
    (cases_lt size (2 ^ 23))

-- The same for a font's size.
pub IsCleared-from_font_size : (size : ℤ) → IsFontSize size → IsCleared (unsigned_abs size) (cleared_bits (unsigned_abs size))
IsCleared-from_font_size (pos n) h = IsCleared-cleared_bits n (omega (arith, ints, h.positive, h.below))
IsCleared-from_font_size (negsuc n) h = absurd (omega (arith, ints, h.positive))

-- The floor of a quotient by 2^20.
pub floor_low : (a : ℤ) → ((int_div_euclid a (pos (2 ^ 20)) *ℤ pos (2 ^ 20)) ≤ℤ a)
floor_low (pos n) = omega (arith, ints)
floor_low (negsuc n) = omega (arith, ints)

pub floor_high : (a : ℤ) → (a <ℤ ((int_div_euclid a (pos (2 ^ 20)) +ℤ pos 1) *ℤ pos (2 ^ 20)))
floor_high (pos n) = omega (arith, ints)
floor_high (negsuc n) = omega (arith, ints)

-- The floor of the definition is the one that `scaled` computes.
pub IsScaled-scaled : (fix size : ℤ) → IsCleared (unsigned_abs size) (cleared_bits (unsigned_abs size)) → IsScaled fix size (scaled size fix)
unfolding scaled kept_size
IsScaled-scaled fix size cleared = record {
  j = cleared_bits (unsigned_abs size);
  kept = pos (kept_size size);
  cleared = cleared;
  kept_is = refl;
  low = floor_low (fix *ℤ pos (kept_size size));
  high = floor_high (fix *ℤ pos (kept_size size));
}

-- A number of 64 bits that is the floor is the word at that size.
pub IsScaled-from_floor : (fix size q : ℤ) → SFits w64 q → q ≡ int_div_euclid (fix *ℤ pos (kept_size size)) (pos (2 ^ 20)) → IsCleared (unsigned_abs size) (cleared_bits (unsigned_abs size)) → IsScaled fix size (to_z w64 (of_z w64 q))
unfolding scaled
IsScaled-from_floor fix size q fits e cleared = rw (to_z-of_z w64 q fits) (rw e (IsScaled-scaled fix size cleared))

pub scaled-from_floor : (fix size q : ℤ) → SFits w64 q → q ≡ int_div_euclid (fix *ℤ pos (kept_size size)) (pos (2 ^ 20)) → to_z w64 (of_z w64 q) ≡ scaled size fix
unfolding scaled
scaled-from_floor fix size q fits e = to_z-of_z w64 q fits ∙ e

-- Only one number of bits is the least.
one_least : (size j k : ℕ) → IsCleared size j → IsCleared size k → j ≡ k
one_least size j k a b =
    ⊎_elim
    (λ (h : j < k). let above = b.least j h in absurd (omega (arith, a.below, above)))
    (λ (h : k ≤ j). ⊎_elim
    (λ (l : k < j). let above = a.least k l in absurd (omega (arith, b.below, above)))
    (λ (l : j ≤ k). omega (arith, h, l))
    (cases_lt k j))
    (cases_lt j k)

-- A number has only one floor.
one_floor : (a p q : ℤ) → (p *ℤ pos (2 ^ 20)) ≤ℤ a → a <ℤ ((p +ℤ pos 1) *ℤ pos (2 ^ 20)) → (q *ℤ pos (2 ^ 20)) ≤ℤ a
    → a <ℤ ((q +ℤ pos 1) *ℤ pos (2 ^ 20)) → p ≡ q
one_floor a p q low high least most = omega (arith, ints, low, high, least, most)

-- The size of a word by a definition is the one that `scaled` computes.
pub IsScaled-only : (fix size q : ℤ) → IsFontSize size → IsScaled fix size q → q ≡ scaled size fix
unfolding scaled kept_size
IsScaled-only fix size q font s =
    let cleared = IsCleared-from_font_size size font in
    let bits = one_least (unsigned_abs size) s.j (cleared_bits (unsigned_abs size)) s.cleared cleared in
    let kept : s.kept ≡ pos (kept_size size) = s.kept_is ∙ ap (λ j. pos (unsigned_abs size - unsigned_abs size % 2 ^ j)) bits in
    one_floor (fix *ℤ pos (kept_size size)) q (scaled size fix)
    (subst (λ z. (q *ℤ pos (2 ^ 20)) ≤ℤ (fix *ℤ z)) kept s.low)
    (subst (λ z. (fix *ℤ z) <ℤ ((q +ℤ pos 1) *ℤ pos (2 ^ 20))) kept s.high)
    (floor_low (fix *ℤ pos (kept_size size))) (floor_high (fix *ℤ pos (kept_size size)))

-- `IsScaled` holds only for one number: the one that `scaled` computes.
pub IsScaled-is : (fix size q : ℤ) → IsFontSize size → (IsScaled fix size q ↔ (q ≡ scaled size fix))
IsScaled-is fix size q font =
    (λ s. IsScaled-only fix size q font s, λ e. rw e (IsScaled-scaled fix size (IsCleared-from_font_size size font)))

pub ruleset scaling = (IsCleared-from_font_size, IsScaled-from_floor, scaled-from_floor)
