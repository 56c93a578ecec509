-- Bits of words, and the bits of the mask of a run.
use Rattle.std.proofs.Common.{◌≡◌, ℕ, zero, suc, ◌+◌, ◌-◌, ◌*◌, ◌/◌, ◌%◌, ◌^◌, ◌<◌, ◌≤◌, min, max, not, ◌&&◌, ◌||◌, ◌==◌, ltb, List, length, get_or, set, refl, sym, ap, ◌∙◌, arith, w64, inl, inr, ◌⊎◌, ◌≢◌}
use Rattle.std.specs.Prelude.{bit_and, bit_or}
use Rattle.std.specs.Int.{bit_at}
use Rattle.std.proofs.lemmas.Nat.{one_shl, mod_below}
use Rattle.std.proofs.lemmas.Nat.Bits.{bit_at_and, bit_at_or, bit_at_not, bit_at_ones, bit_at_ones_above, bit_at-lt}
use Rattle.std.proofs.lemmas.Bool.{cases_lt, lt-ltb, le-ltb, le-leb, lt-leb}
use Rattle.std.proofs.lemmas.List.{get_or-set_same, get_or-set_other}
use Rattle.raster_core.specs.Words.{is_set, is_between}
use Rattle.raster_core.specs.Private.Words.{in_row}

bit_cases : (P : ℕ → Type 0) → P 0 → P 1 → (x : ℕ) → x < 2 → P x
bit_cases P p q zero h = p
bit_cases P p q (suc zero) h = q
bit_cases P p q (suc (suc r)) h = let no : ⊥ = omega arith in absurd no

two_bits : (P : ℕ → ℕ → Type 0) → P 0 0 → P 0 1 → P 1 0 → P 1 1 → (a b i : ℕ) → P (bit_at a i) (bit_at b i)
two_bits P p q r s a b i =
    bit_cases (λ x. P x (bit_at b i)) (bit_cases (P 0) p q (bit_at b i) (bit_at-lt b i)) (bit_cases (P 1) r s (bit_at b i) (bit_at-lt b i)) (bit_at a i) (bit_at-lt a i)

pub is_set-or : (a b i : ℕ) → is_set (bit_or a b) i ≡ (is_set a i || is_set b i)
is_set-or a b i = ap (λ n. n == 1) (bit_at_or a b i) ∙ two_bits (λ x y. (max x y == 1) ≡ ((x == 1) || (y == 1))) refl refl refl refl a b i

is_set-and : (a b i : ℕ) → is_set (bit_and a b) i ≡ (is_set a i && is_set b i)
is_set-and a b i = ap (λ n. n == 1) (bit_at_and a b i) ∙ two_bits (λ x y. (min x y == 1) ≡ ((x == 1) && (y == 1))) refl refl refl refl a b i

is_set-not : (a i : ℕ) → a < 2 ^ 64 → i < 64 → is_set (2 ^ 64 - 1 - a) i ≡ not (is_set a i)
is_set-not a i ha hi = ap (λ n. n == 1) (bit_at_not w64 a i ha hi) ∙ bit_cases (λ x. ((1 - x) == 1) ≡ not (x == 1)) refl refl (bit_at a i) (bit_at-lt a i)

pub ones_are_set : (i count : ℕ) → 64 ≤ count → i < 64 → is_set (2 ^ 64 - 1) i ≡ ltb i count
ones_are_set i count many h =
    let within : i < count = omega arith in
    ap (λ n. n == 1) (bit_at_ones 64 i h) ∙ sym (lt-ltb i count within)

few_are_set : (i count : ℕ) → (i < count) ⊎ (count ≤ i) → is_set (2 ^ count - 1) i ≡ ltb i count
few_are_set i count (inl low) = ap (λ n. n == 1) (bit_at_ones count i low) ∙ sym (lt-ltb i count low)
few_are_set i count (inr high) = ap (λ n. n == 1) (bit_at_ones_above count i high) ∙ sym (le-ltb i count high)

pub low_bits_are_set : (i count : ℕ) → count < 64 → is_set (1 * 2 ^ count % 2 ^ 64 - 1) i ≡ ltb i count
low_bits_are_set i count few = ap (λ n. is_set (n - 1) i) (one_shl count 64 few) ∙ few_are_set i count (cases_lt i count)

-- The tests of the two masks, at bit i of word k.
run_is : (k i first last : ℕ) → (ltb i (last - 64 * k) && not (ltb i (first - 64 * k))) ≡ is_between first last (64 * k + i)
run_is k i first last = go (cases_lt (64 * k + i) last) (cases_lt (64 * k + i) first)
  where
    go : ((64 * k + i) < last) ⊎ (last ≤ (64 * k + i)) → ((64 * k + i) < first) ⊎ (first ≤ (64 * k + i)) → (ltb i (last - 64 * k) && not (ltb i (first - 64 * k))) ≡ is_between first last (64 * k + i)
    go (inl a) (inl b) = rw (lt-ltb i (last - 64 * k) (omega arith), lt-ltb i (first - 64 * k) (omega arith), lt-leb first (64 * k + i) b)
    go (inl a) (inr b) = rw (lt-ltb i (last - 64 * k) (omega arith), le-ltb i (first - 64 * k) (omega arith), le-leb first (64 * k + i) b, lt-ltb (64 * k + i) last a)
    go (inr a) (inl b) = rw (le-ltb i (last - 64 * k) (omega arith), lt-leb first (64 * k + i) b)
    go (inr a) (inr b) = rw (le-ltb i (last - 64 * k) (omega arith), le-leb first (64 * k + i) b, le-ltb (64 * k + i) last a)

-- Bit i of word k of the mask.
word_bit : (low high k i first last : ℕ) → high < 2 ^ 64 → i < 64 → ((j : ℕ) → j < 64 → is_set low j ≡ ltb j (last - 64 * k)) → ((j : ℕ) → j < 64 → is_set high j ≡ ltb j (first - 64 * k))
    → is_set (bit_and low (2 ^ 64 - 1 - high)) i ≡ is_between first last (64 * k + i)
word_bit low high k i first last fits h p q =
    is_set-and low (2 ^ 64 - 1 - high) i
    ∙ (ap (λ b. is_set low i && b) (is_set-not high i fits h)
    ∙ (ap (λ b. b && not (is_set high i)) (p i h)
    ∙ (ap (λ b. ltb i (last - 64 * k) && not b) (q i h) ∙ run_is k i first last)))

-- A word is written, and the words before it are unchanged.
pub fill_more : (mask : List ℕ) (k word first last from : ℕ) → k < length mask → ((i : ℕ) → i < 64 → is_set word i ≡ is_between first last (64 * k + i))
    → ((x : ℕ) → 64 * from ≤ x → x < 64 * k → in_row mask x ≡ is_between first last x)
    → (x : ℕ) → 64 * from ≤ x → x < 64 * (k + 1) → in_row (set mask k word) x ≡ is_between first last x
unfolding in_row
fill_more mask k word first last from space here below x low high = go (cases_lt x (64 * k))
  where
    go : (x < 64 * k) ⊎ (64 * k ≤ x) → is_set (get_or (set mask k word) (x / 64) 0) (x % 64) ≡ is_between first last x
    go (inl h) = let other : x / 64 ≢ k = omega arith in ap (λ w. is_set w (x % 64)) (get_or-set_other mask k (x / 64) word 0 other) ∙ below x low h
    go (inr h) =
        let same : x / 64 ≡ k = omega arith in
        let whole : 64 * k + x % 64 ≡ x = omega arith in
        ap (λ j. is_set (get_or (set mask k word) j 0) (x % 64)) same
        ∙ (ap (λ w. is_set w (x % 64)) (get_or-set_same mask k word 0 space)
        ∙ (here (x % 64) (mod_below x 64 (omega arith)) ∙ ap (is_between first last) whole))

-- The word that `fill` writes.
pub filled_word : (low high k first last : ℕ) → high < 2 ^ 64 → ((j : ℕ) → j < 64 → is_set low j ≡ ltb j (last - 64 * k)) → ((j : ℕ) → j < 64 → is_set high j ≡ ltb j (first - 64 * k))
    → (i : ℕ) → i < 64 → is_set (bit_and low (2 ^ 64 - 1 - high)) i ≡ is_between first last (64 * k + i)
filled_word low high k first last fits p q i h = word_bit low high k i first last fits h p q

-- Another word is unchanged.
pub stays : (mask first : List ℕ) (k word j : ℕ) → (j ≡ k → ⊥) → get_or mask j 0 ≡ get_or first j 0 → get_or (set mask k word) j 0 ≡ get_or first j 0
stays mask first k word j other before = get_or-set_other mask k j word 0 other ∙ before
