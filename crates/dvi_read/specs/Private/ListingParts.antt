-- The parts of a listing (own).
use Rattle.std.specs.Prelude.{◌≡◌, ◌≤◌, [], ◌∷◌, ◌++◌, List, ℕ, ℤ, Option, Some, None, codes, drop}
use Rattle.std.specs.Fmt.{signed_decimal}
use Rattle.dvi_read.specs.declared.listings.part.NumberEnd.{NumberEnd}

-- The end of a line: a number in decimal, with a space before it, and a line feed.
abbrev pub decimal_line_end : ℤ → List ℕ
decimal_line_end number = (codes " " ++ signed_decimal number) ++ (10 ∷ [])

-- The kept end of a line is at the end of the bytes.
pub record IsEnd (bytes : List ℕ) (begin : ℕ) (ended : NumberEnd) : Type 0 where
  pub after : begin ≤ ended.begin
  pub within : ended.begin ≤ 256
  pub short : 233 ≤ ended.begin
  pub text : drop ended.begin bytes ≡ decimal_line_end ended.number

abbrev pub IsEnded : List ℕ → ℕ → Option NumberEnd → Type 0
IsEnded bytes begin None = Unit {0}
IsEnded bytes begin (Some ended) = IsEnd bytes begin ended

-- A part begins within the bytes.
pub record IsListingPart (bytes : List ℕ) (begin : ℕ) (ended : Option NumberEnd) : Type 0 where
  pub within : begin ≤ 256
  pub kept : IsEnded bytes begin ended
