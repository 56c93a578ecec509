-- Inserting a character into a set.
use Rattle.std.proofs.Common.{◌≡◌, ℕ, ◌*◌, ◌/◌, ◌%◌, ◌^◌, ◌<◌, ◌||◌, eqb, List, length, get_or, set, refl, arith, ⊎_elim}
use Rattle.std.specs.Int.{bit_at, w64}
use Rattle.std.specs.Prelude.{bit_or}
use Rattle.std.proofs.lemmas.Bool.{cases_eq, eq-eqb, ne_eqb}
use Rattle.std.proofs.lemmas.List.{get_or-set_same, get_or-set_other}
use Rattle.std.proofs.lemmas.Nat.Bits.{bit_at_set_same, bit_at_set_other}

-- The word of a character, with its bit set.
abbrev pub with_bit : List ℕ → ℕ → ℕ
with_bit words c = bit_or (get_or words (c / 64) 0) (1 * 2 ^ (c % 64) % 2 ^ 64)

bit_same : (words : List ℕ) (c : ℕ) → c / 64 < length words → bit_at (get_or (set words (c / 64) (with_bit words c)) (c / 64) 0) (c % 64) ≡ 1
bit_same words c within =
    let bit : c % 64 < 64 = omega arith in
    rw (get_or-set_same words (c / 64) (with_bit words c) 0 within) (bit_at_set_same w64 (get_or words (c / 64) 0) (c % 64) bit)

bit_other : (words : List ℕ) (c i : ℕ) → c / 64 < length words → (i ≡ c → ⊥) →
    bit_at (get_or (set words (c / 64) (with_bit words c)) (i / 64) 0) (i % 64) ≡ bit_at (get_or words (i / 64) 0) (i % 64)
bit_other words c i within apart =
    let bit : c % 64 < 64 = omega arith in
    ⊎_elim
    (λ (same : i / 64 ≡ c / 64).
    let other : i % 64 ≡ c % 64 → ⊥ = λ e. apart (omega arith) in
    rw (same, get_or-set_same words (c / 64) (with_bit words c) 0 within) (bit_at_set_other w64 (get_or words (c / 64) 0) (c % 64) bit (i % 64) other))
    (λ (other : i / 64 ≡ c / 64 → ⊥). rw (get_or-set_other words (c / 64) (i / 64) (with_bit words c) 0 other) refl)
    (cases_eq (i / 64) (c / 64))

-- After the insertion, a set has the new character and those that it had before.
pub inserted : (words : List ℕ) (c i : ℕ) → c / 64 < length words →
    eqb (bit_at (get_or (set words (c / 64) (with_bit words c)) (i / 64) 0) (i % 64)) 1 ≡ (eqb i c || eqb (bit_at (get_or words (i / 64) 0) (i % 64)) 1)
inserted words c i within =
    ⊎_elim
    (λ (e : i ≡ c). rw (e, bit_same words c within, eq-eqb c c refl) refl)
    (λ (ne : i ≡ c → ⊥). rw (bit_other words c i within ne, ne_eqb i c ne) refl)
    (cases_eq i c)
