-- Facts that follow from kept and from broken rules.
use Rattle.std.proofs.Common.{◌≡◌, ℕ, ◌*◌, ◌<◌, ◌≤◌, Bool, true, false, ◌||◌, not, List, length, refl, arith, eqb, ltb, ℤ, pos, negsuc, ◌/◌, ◌^◌, to_z, of_z, SFits, w32}
use Rattle.std.specs.Int.RustNames.{int_div}
use Rattle.std.proofs.lemmas.Int.{ints, quot_fits, to_z-of_z}
use Rattle.tfm_core.specs.Scaling.{IsFontSize}
use Rattle.std.proofs.lemmas.Bool.Decides.{nat_tests}
use Rattle.std.proofs.lemmas.Bool.{eqb-true, ltb-false}
use Rattle.tfm_core.specs.declared.record.Counts.{Counts}
use Rattle.tfm_core.specs.MetricFile.{counts_in, end_place}
use Rattle.tfm_core.specs.Private.MetricFile.{HasTables}
use Rattle.tfm_core.specs.Rules.{breaks_counts, breaks_design_size, has_large_number, has_wrong_codes, is_too_short, lacks_a_table}

-- Both parts of a test joined by `||` fail.
pub or_false : (a b : Bool) → (a || b) ≡ false → (a ≡ false) × (b ≡ false)
or_false true b h = absurd (cc)
or_false false b h = (refl, h)

pub not_false : (b : Bool) → not b ≡ false → b ≡ true
not_false true h = refl
not_false false h = absurd (cc)

header_kept : (c : Counts) → lacks_a_table c ≡ false → 2 ≤ c.header
unfolding lacks_a_table
header_kept c h = grind (arith, nat_tests, or_false)

-- The header has its two words.
pub header_words : (c : Counts) → breaks_counts c ≡ false → 2 ≤ c.header
unfolding breaks_counts
header_words c h =
    let p = or_false (has_large_number c || has_wrong_codes c || lacks_a_table c) (not (eqb c.file (end_place c))) h in
    let q = or_false (has_large_number c || has_wrong_codes c) (lacks_a_table c) p.0 in
    header_kept c q.1

-- The tables fill the file.
pub filled : (c : Counts) → breaks_counts c ≡ false → c.file ≡ end_place c
unfolding breaks_counts
filled c h =
    let p = or_false (has_large_number c || has_wrong_codes c || lacks_a_table c) (not (eqb c.file (end_place c))) h in
    eqb-true c.file (end_place c) (not_false _ p.1)

-- The bytes are long enough for the twelve numbers.
pub long_for_numbers : (bytes : List ℕ) → is_too_short bytes ≡ false → 24 ≤ length bytes
unfolding is_too_short
long_for_numbers bytes h = ltb-false (length bytes) 24 (or_false _ _ h).0

-- The bytes are long enough for the words of the file.
pub long_for_file : (bytes : List ℕ) → is_too_short bytes ≡ false → 4 * (counts_in bytes).file ≤ length bytes
unfolding is_too_short
long_for_file bytes h = ltb-false (length bytes) (4 * (counts_in bytes).file) (or_false _ _ h).1

-- The bytes are long enough for all tables.
pub long_for_tables : (bytes : List ℕ) → is_too_short bytes ≡ false → breaks_counts (counts_in bytes) ≡ false → 4 * end_place (counts_in bytes) ≤ length bytes
long_for_tables bytes h k = omega (arith, long_for_file bytes h, filled (counts_in bytes) k)

-- The bytes are long enough for the first two words of the header.
pub long_for_header : (bytes : List ℕ) → is_too_short bytes ≡ false → breaks_counts (counts_in bytes) ≡ false → 32 ≤ length bytes
long_for_header bytes h k = omega (arith, long_for_tables bytes h k, header_words (counts_in bytes) k)

-- The bytes have all tables, if none of the first rules is broken.
pub HasTables-from_kept : (bytes : List ℕ) → is_too_short bytes ≡ false → breaks_counts (counts_in bytes) ≡ false → HasTables bytes
HasTables-from_kept bytes h k = record {
  numbers = long_for_numbers bytes h;
  header = header_words (counts_in bytes) k;
  tables = long_for_tables bytes h k;
}

pub ruleset space = (long_for_numbers, long_for_header, HasTables-from_kept)

design_size_is_size : (word : ℤ) → SFits w32 word → breaks_design_size word ≡ false → IsFontSize (int_div word (pos 16))
unfolding breaks_design_size
design_size_is_size (pos n) fits h =
    let large : 65536 ≤ n / 16 = ltb-false (n / 16) 65536 (or_false (ltb n 0) (ltb (n / 16) 65536) h).1 in
    let small : n < 2 ^ 31 = fits.sfits in
    record {
      positive = omega (arith, ints);
      below = omega (arith, ints);
    }
design_size_is_size (negsuc n) fits h = absurd (cc)

-- The design size of a file that keeps its rule is a font's size.
pub IsFontSize-from_design_word : (word : ℤ) → SFits w32 word → breaks_design_size word ≡ false → IsFontSize (to_z w32 (of_z w32 (int_div (to_z w32 (of_z w32 word)) (pos 16))))
IsFontSize-from_design_word word fits h =
    rw (to_z-of_z w32 word fits) (rw (to_z-of_z w32 (int_div word (pos 16)) (quot_fits w32 word (pos 16) fits (omega (arith, ints)))) (design_size_is_size word fits h))
