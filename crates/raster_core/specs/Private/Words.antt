-- The rest of `Words`, which no public contract reaches (own).
use Rattle.std.specs.Prelude.{◌≡◌, ◌≤◌, ◌<◌, ◌+◌, ◌*◌, ◌/◌, ◌%◌, ℕ, Bool, List, slice_index, bit_or}
use Rattle.std.specs.Int.{div_ceil}
use Rattle.raster_core.specs.Words.{is_set, is_between}

-- Whether the pixel of column x is black in a row of words (own).
unfoldable pub in_row : List ℕ → (x : ℕ) → Bool
in_row row x = is_set (slice_index row (x / 64)) (x % 64)

-- The words `from` to `to` (excluded) of a mask are put into a list of words with "or", where word 0 of the mask falls on the word `at`; the other
-- words are unchanged (own).
pub record Ors (old new : List ℕ) (at : ℕ) (mask : List ℕ) (from to : ℕ) : Type 0 where
  pub inside : (k : ℕ) → from ≤ k → k < to → slice_index new (at + k) ≡ bit_or (slice_index old (at + k)) (slice_index mask k)
  pub before : (j : ℕ) → j < at + from → slice_index new j ≡ slice_index old j
  pub after : (j : ℕ) → at + to ≤ j → slice_index new j ≡ slice_index old j

-- A mask has the pixels `first` to `last` (excluded) in each word that they touch, and `inner`, which has three words, has the numbers of the words
-- that they fill (own).
pub record IsRun (mask inner : List ℕ) (first last : ℕ) : Type 0 where
  pub touched : (x : ℕ) → 64 * (first / 64) ≤ x → x < 64 * div_ceil last 64 → in_row mask x ≡ is_between first last x
  pub filled : (k : ℕ) → k < 192 → in_row inner k ≡ is_between (div_ceil first 64) (last / 64) k
