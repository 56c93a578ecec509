-- Scaling of the words of a metric file by the size of a font (TeX: The Program, part 30, §571 and §572).
use Rattle.std.specs.Prelude.{◌≡◌, ◌==◌, ◌||◌, ◌^◌, ◌+◌, ◌-◌, ◌/◌, ◌%◌, ◌<◌, ◌≤◌, ◌+ℤ◌, ◌*ℤ◌, ◌≤ℤ◌, ◌<ℤ◌, ℕ, ℤ, pos, Bool, Option, Some, None}
use Rattle.std.specs.Prelude.{if◌then◌else◌, int_div, nat_lt, unsigned_abs}
use Rattle.std.specs.Int.{w32, cast_unsigned, int_div_euclid}

-- A font's size in scaled points: positive and below 2^27 (TeX: The Program, part 30, and part 49, §1259).
pub record IsFontSize (size : ℤ) : Type 0 where
  pub positive : pos 0 <ℤ size
  pub below : size <ℤ pos (2 ^ 27)

-- The highest of the four bytes of a signed word (TFtoPL, 8 and 9).
abbrev pub first_byte : ℤ → ℕ
first_byte word = cast_unsigned w32 word / 2 ^ 24

-- A fix word: its first byte is 0 or 255 (TeX: The Program, part 30, §571).
unfoldable pub is_fix_word : ℤ → Bool
is_fix_word word = (first_byte word == 0) || (first_byte word == 255)

-- The number j of bits of a size that are cleared: the least with size < 2^(23 + j) (TeX: The Program, part 30, §572).
pub record IsCleared (size j : ℕ) : Type 0 where
  pub below : size < 2 ^ (23 + j)
  pub least : (i : ℕ) → i < j → 2 ^ (23 + i) ≤ size

-- The number q is the floor of fix * kept / 2^20, where kept is the size with its lowest j bits cleared (TeX: The Program, part 30, §571 and §572).
pub record IsScaled (fix size q : ℤ) : Type 0 where
  pub j : ℕ
  pub kept : ℤ
  pub cleared : IsCleared (unsigned_abs size) j
  pub kept_is : kept ≡ pos (unsigned_abs size - unsigned_abs size % 2 ^ j)
  pub low : (q *ℤ pos (2 ^ 20)) ≤ℤ (fix *ℤ kept)
  pub high : (fix *ℤ kept) <ℤ ((q +ℤ pos 1) *ℤ pos (2 ^ 20))

-- The number of bits of a size below 2^27 that are cleared: the j of `IsCleared` (TeX: The Program, part 30, §572).
unfoldable pub cleared_bits : ℕ → ℕ
cleared_bits size =
    if nat_lt size (2 ^ 23) then 0
    else (if nat_lt size (2 ^ 24) then 1
    else (if nat_lt size (2 ^ 25) then 2
    else (if nat_lt size (2 ^ 26) then 3
    else 4)))

-- A size with its low bits cleared (TeX: The Program, part 30, §572).
unfoldable pub kept_size : ℤ → ℕ
kept_size size = unsigned_abs size - unsigned_abs size % 2 ^ cleared_bits (unsigned_abs size)

-- The size of a fix word at a font's size, by one floor (TeX: The Program, part 30, §571 and §572).
unfoldable pub scaled : ℤ → ℤ → ℤ
scaled size fix = int_div_euclid (fix *ℤ pos (kept_size size)) (pos (2 ^ 20))

-- The size of a word at a font's size, if it is a fix word (TeX: The Program, part 30, §571 and §572).
unfoldable pub scaled_word : ℤ → ℤ → Option ℤ
scaled_word size word = if is_fix_word word then Some (scaled size word) else None

-- The design size in scaled points: word 1 of the header is in 2^20ths of a point (TFtoPL, 10).
abbrev pub design_size_of : ℤ → ℤ
design_size_of word = int_div word (pos 16)
