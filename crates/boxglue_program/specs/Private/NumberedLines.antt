-- The line of an answer whose number is written now (own).
use Rattle.std.specs.Prelude.{◌≡◌, ◌+◌, ◌++◌, ℕ, zero, suc, List, [], length, take, drop, codes, decimal}
use Rattle.boxglue_program.specs.Texts.{line_feed}
use Rattle.boxglue_program.specs.declared.numbered_line.NumberedLine.{NumberedLine}

-- The digits of a number before its last one, from the number without that digit. A number of one digit has none.
abbrev pub digits_before_last : ℕ → List ℕ
digits_before_last zero = []
digits_before_last (suc n) = decimal (suc n)

-- What follows the digits: the end of the line `N: ok`, and space.
abbrev pub line_end : List ℕ
line_end = codes ": ok" ++ (line_feed ++ codes "                    ")

-- The text has the digits before the last one, and what follows the last one.
pub record HoldsTens (line : NumberedLine) : Type 0 where
  pub start : line.start + length (digits_before_last line.tens) ≡ 19
  pub tens : take (length (digits_before_last line.tens)) (drop line.start line.text) ≡ digits_before_last line.tens
  pub behind : drop 20 line.text ≡ line_end
