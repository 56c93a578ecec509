-- The lines of a script and their fields (own). The lines of a text are those of `lines` of std.
use Rattle.std.specs.Prelude.{◌≡◌, ◌⊎◌, ◌==◌, ℕ, Bool, true, false, ◌&&◌, List, [], ◌∷◌, ◌++◌, codes, nat_le, replicate}
use Rattle.std.specs.List.{filter, slice_split}

-- A byte that a command may have: printable ASCII.
abbrev pub is_printable : ℕ → Bool
is_printable byte = nat_le 32 byte && nat_le byte 126

-- A line that is counted but gives no command: an empty one, or one whose first byte is `%`.
abbrev pub is_passed_over : List ℕ → Bool
is_passed_over [] = true
is_passed_over (byte ∷ line) = byte == 37

-- Whether a part of a line is not empty.
abbrev pub is_filled : List ℕ → Bool
is_filled [] = false
is_filled (byte ∷ bytes) = true

-- A space: the byte 32.
abbrev pub is_space : ℕ → Bool
is_space byte = byte == 32

-- The fields of a line: its parts between spaces that are not empty.
unfoldable pub fields_of : List ℕ → List (List ℕ)
fields_of line = filter is_filled (slice_split is_space line)

-- A line of this word and this text: spaces, and the word with nothing after it for the empty text, or with one space and the text unchanged.
abbrev pub IsLineOf : List ℕ → List ℕ → List ℕ → Type 0
IsLineOf word line text =
    (spaces : ℕ) × (((line ≡ replicate spaces 32 ++ word) × (text ≡ [])) ⊎ (line ≡ replicate spaces 32 ++ (word ++ 32 ∷ text)))

-- A line of `text` with this text.
abbrev pub IsTextLine : List ℕ → List ℕ → Type 0
IsTextLine = IsLineOf (codes "text")

-- A line of `special` with this text.
abbrev pub IsSpecialLine : List ℕ → List ℕ → Type 0
IsSpecialLine = IsLineOf (codes "special")

-- A line with this text, unchanged: such a line is not cut into fields.
abbrev pub HasText : List ℕ → List ℕ → Type 0
HasText line text = IsTextLine line text ⊎ IsSpecialLine line text
