-- The values of one to four bytes.
use Rattle.std.proofs.Common.{ℕ, zero, suc, ℤ, ◌≡◌, ◌≤◌, ◌<◌, ◌+◌, ◌*◌, List, [], ◌∷◌, length, drop, slice_index, arith, inl, inr, refl, sym, ap, ◌∙◌}
use Rattle.std.proofs.lemmas.Bool.{cases_lt, lt-ltb, le-ltb}
use Rattle.std.proofs.lemmas.Int.{ints}
use Rattle.std.proofs.lemmas.List.{drop-drop, get_or-drop}
use Rattle.std.specs.Int.{w32, cast_signed}
use Rattle.byteorder.specs.Endian.{IsReadBy, big_number, twos_complement}
use Rattle.byteorder.specs.Numbers.{big_from-lt}
use Rattle.dvi_ops.specs.Private.Reading.{words}
use Rattle.dvi_ops.specs.Table.{signed}

-- Proof by cases on a number from 1 to 4.
pub four : (P : ℕ → Type 0) (n : ℕ) → 1 ≤ n → n ≤ 4 → P 1 → P 2 → P 3 → P 4 → P n
four P zero low high a b c d = absurd (omega arith)
four P (suc zero) low high a b c d = a
four P (suc (suc zero)) low high a b c d = b
four P (suc (suc (suc zero))) low high a b c d = c
four P (suc (suc (suc (suc zero)))) low high a b c d = d
four P (suc (suc (suc (suc (suc n))))) low high a b c d = absurd (omega arith)

-- The value of up to three bytes is below 2^24.
pub short_below : (n : ℕ) (bytes : List ℕ) → n ≤ 3 → ((k : ℕ) → slice_index bytes k < 256) → big_number n bytes < 16777216
short_below zero bytes high small = omega arith
short_below (suc zero) bytes high small = let h = big_from-lt 0 1 bytes small in omega arith
short_below (suc (suc zero)) bytes high small = let h = big_from-lt 0 2 bytes small in omega arith
short_below (suc (suc (suc zero))) bytes high small = let h = big_from-lt 0 3 bytes small in omega arith
short_below (suc (suc (suc (suc n)))) bytes high small = absurd (omega arith)

-- The code's cast of a number of four bytes is its value in two's complement.
cast_is : (x : ℕ) → x < 4294967296 → cast_signed w32 x ≡ twos_complement 4 x
cast_is x h = elim (cases_lt x 2147483648) [
  | inl below ↦ rw (lt-ltb x 2147483648 below) refl
  | inr above ↦ rw (le-ltb x 2147483648 above) (omega (arith, ints))
]

-- The numbers that the code reads from some bytes are `words` of these bytes.
pub read_words : (n : ℕ) (src : List ℕ) (dst : List ℤ) → length dst ≡ n → ((k : ℕ) → slice_index src k < 256)
    → IsReadBy (λ ys. cast_signed w32 (big_number 4 ys)) 4 src dst → dst ≡ words n src
unfolding words
read_words zero src [] len small is = refl
read_words zero src (z ∷ zs) len small is = absurd (omega arith)
read_words (suc n) src [] len small is = absurd (omega arith)
read_words (suc n) src (z ∷ zs) len small is =
    let bound : big_number 4 src < 4294967296 = big_from-lt 0 4 src small in
    let head : z ≡ signed 4 src = is z 0 (omega arith) ∙ cast_is (big_number 4 src) bound in
    let tail : zs ≡ words n (drop 4 src) =
    read_words n (drop 4 src) zs (omega arith) (λ k. rw (get_or-drop 4 src k 0) (small (4 + k)))
    (λ d k h.
    let e : 4 * suc k ≡ 4 + 4 * k = omega arith in
    is d (suc k) (omega arith) ∙ ap (λ (ys : List ℕ). cast_signed w32 (big_number 4 ys)) (ap (λ (m : ℕ). drop m src) e ∙ sym (drop-drop (4 * k) 4 src))) in
    cc
