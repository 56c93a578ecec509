-- Numbers at places of a metric file, with the highest byte first (TFtoPL, 8).
use Rattle.std.specs.Prelude.{◌≡◌, ◌+◌, ◌*◌, ◌<◌, ℕ, ℤ, List, drop, get_or, length, map}
use Rattle.std.specs.Int.{w32, cast_signed}
use Rattle.std.specs.List.{range_with_len}
use Rattle.byteorder.specs.Endian.{big_number}

-- The bytes from word k on; a word is four bytes, and words count from 0 (TFtoPL, 8).
abbrev pub from_word : List ℕ → ℕ → List ℕ
from_word bytes k = drop (4 * k) bytes

-- Halfword k, which counts from 0 (TFtoPL, 8).
abbrev pub halfword : List ℕ → ℕ → ℕ
halfword bytes k = big_number 2 (drop (2 * k) bytes)

-- The first four bytes as a signed number, in two's complement (TFtoPL, 9).
abbrev pub signed_word : List ℕ → ℤ
signed_word bytes = cast_signed w32 (big_number 4 bytes)

-- The entries are those of `count` words, starting at word `place`: entry k is what the bytes at its place encode (own).
pub record IsWordTable {X : Type 0} (entry : List ℕ → X) (bytes : List ℕ) (place count : ℕ) (entries : List X) : Type 0 where
  pub length_is : length entries ≡ count
  pub each : (k : ℕ) (past : X) → k < count → get_or entries k past ≡ entry (from_word bytes (place + k))

-- The entries of `count` words, starting at word `place`, as a list (own).
unfoldable pub table : {X : Type 0} → (List ℕ → X) → List ℕ → ℕ → ℕ → List X
table entry bytes place count = map (λ k. entry (from_word bytes k)) (range_with_len place count)
