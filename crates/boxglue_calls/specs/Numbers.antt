-- The numbers of lines over the pieces of a script (own).
use Rattle.std.specs.Prelude.{◌+◌, ◌-◌, ◌^◌, ◌==◌, ◌||◌, ℕ, Bool, if◌then◌else◌, List, length, map, filter, min, slice_index}
use Rattle.boxglue_script.specs.declared.script.Line.{Line}

-- The number of a line of a piece, where the pieces before it have this many lines. Lines after 2^64 - 1 have that number too.
abbrev pub number_after : (before number : ℕ) → ℕ
number_after before number = min (before + number) (2 ^ 64 - 1)

-- The lines of a piece, with their numbers in the whole script.
abbrev pub numbered_lines : (before : ℕ) → List Line → List Line
numbered_lines before lines = map (λ line. record { number = number_after before line.number; command = line.command }) lines

-- The line feeds of a text.
abbrev pub line_feeds : List ℕ → ℕ
line_feeds text = length (filter (λ byte. byte == 10) text)

-- A text is empty or ends in a line feed.
abbrev pub is_whole : List ℕ → Bool
is_whole text = (length text == 0) || (slice_index text (length text - 1) == 10)

-- How many lines a text has: its line feeds, and one more where it does not end in one.
abbrev pub line_count : List ℕ → ℕ
line_count text = number_after (line_feeds text) (if is_whole text then 0 else 1)
