-- Pixels as the bits of 64-bit words (own): 64 pixels in each word, from the lowest bit on.
use Rattle.std.specs.Prelude.{◌≡◌, ◌==◌, ◌<◌, ◌+◌, ◌*◌, ◌/◌, ◌%◌, ◌&&◌, ℕ, Bool, true, List, nat_le, nat_lt, slice_index}
use Rattle.std.specs.Int.{bit_at}

-- Whether bit i of a word is 1 (own).
abbrev pub is_set : ℕ → ℕ → Bool
is_set word i = bit_at word i == 1

-- Whether the pixel of column x and row y is black, where the rows follow each other and each has `stride` words (own).
unfoldable pub in_rows : List ℕ → (stride x y : ℕ) → Bool
in_rows words stride x y = is_set (slice_index words (y * stride + x / 64)) (x % 64)

-- Whether x is at least `first` and below `end` (own).
abbrev pub is_between : (first end x : ℕ) → Bool
is_between first end x = nat_le first x && nat_lt x end

-- Bits for the words of rows, 192 bits for each row: where a bit is 1, all pixels of its word are black (own).
abbrev pub AreFull : (full words : List ℕ) → (stride : ℕ) → Type 0
AreFull full words stride = (x y : ℕ) → x < 64 * stride → in_rows full 3 (x / 64) y ≡ true → in_rows words stride x y ≡ true
