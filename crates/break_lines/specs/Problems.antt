-- The facts about a paragraph from which its lines are chosen, and the costs of consecutive lines (TeX: The Program, part 38, §813 to §861; a pass
-- over the paragraph, without its nodes).
use Rattle.std.specs.Prelude.{◌+ℤ◌, ◌+◌, ℕ, ℤ, pos, neg_ℤ, min, Bool, List, [], ◌∷◌, Option, Some, None}
use Rattle.break_lines.specs.declared.state.Fitness.{Fitness}
use Rattle.break_lines.specs.declared.state.Fitness.TheVariants.{VeryLoose, Loose, Decent, Tight}
use Rattle.break_lines.specs.declared.state.BreakState.{BreakState}
use Rattle.break_lines.specs.declared.state.LineCost.{LineCost}

-- The greatest number of legal places of a paragraph (own).
abbrev pub max_places : ℕ
max_places = 8192

-- A paragraph in a pass. Its legal places are numbered from 1; the last one is its end, and 0 is its start.
pub record Problem : Type 0 where
  -- The number of legal places.
  pub places : ℕ
  -- Whether a break at a place is forced.
  pub forced : ℕ → Bool
  -- The number of lines that are counted: a line can depend on the number of lines before it, up to this number.
  pub cut : ℕ
  -- The line from the end of another one, or from the start, to a later place, if this pass admits it.
  pub line : BreakState → ℕ → Option LineCost

-- A class as a number: very loose 0, loose 1, decent 2, tight 3 (TeX: The Program, part 38, §817).
abbrev pub class_index : Fitness → ℕ
class_index VeryLoose = 0
class_index Loose = 1
class_index Decent = 2
class_index Tight = 3

-- The state at the start: there is no line yet, and the class is decent (TeX: The Program, part 39, §864).
abbrev pub start : BreakState
start = record { place = 0; lines = 0; class = Decent }

-- The state at the end of a line from state s to a place.
abbrev pub end_after : (cut : ℕ) → BreakState → ℕ → LineCost → BreakState
end_after cut s place line = record { place = place; lines = min (s.lines + 1) cut; class = line.class }

-- Consecutive lines from the start: their costs, the end of the last line, and the ends before it from the last one to the start.
pub record Path : Type 0 where
  pub overhang : ℤ
  pub demerits : ℤ
  pub last : BreakState
  pub before : List BreakState

-- The path without lines.
abbrev pub first_path : Path
first_path = record { overhang = pos 0; demerits = pos 0; last = start; before = [] }

-- A path with one more line.
abbrev pub with_line : Problem → Path → ℕ → LineCost → Path
with_line p q place line =
    record {
      overhang = q.overhang +ℤ line.overhang;
      demerits = q.demerits +ℤ line.demerits;
      last = end_after p.cut q.last place line;
      before = q.last ∷ q.before;
    }

-- A path with one more line to a place, if the line is admitted.
abbrev pub with_line_if : Problem → Path → ℕ → Option LineCost → Option Path
with_line_if p q place None = None
with_line_if p q place (Some line) = Some (with_line p q place line)

-- A path with one more line to a place, if there is a path and its line is admitted.
abbrev pub lengthened_path : Problem → Option Path → ℕ → Option Path
lengthened_path p None place = None
lengthened_path p (Some q) place = with_line_if p q place (p.line q.last place)

-- The lines that end at these places, of which the last one comes first, if each line is admitted.
abbrev pub path_of : Problem → List ℕ → Option Path
path_of p [] = Some first_path
path_of p (place ∷ places) = lengthened_path p (path_of p places) place

-- The ends of the lines, with the last one first; the start is not one of them.
abbrev pub ends_from : BreakState → List BreakState → List BreakState
ends_from last [] = []
ends_from last (s ∷ before) = last ∷ ends_from s before

-- The ends of the lines of a path, with the last one first; the start is not one of them.
abbrev pub ends_of : Path → List BreakState
ends_of q = ends_from q.last q.before

-- The places of ends.
abbrev pub places_of : List BreakState → List ℕ
places_of [] = []
places_of (s ∷ states) = s.place ∷ places_of states

-- The ends of lines as numbers that decide ties, from the last end on: the later place comes first, then fewer lines, then the lower class (own; TeX:
-- The Program, part 38, §855, keeps for each class of a line the break before it that was found last; part 39, §874, takes at the end the first
-- active node of fewest demerits).
abbrev pub tie_numbers : List BreakState → List ℤ
tie_numbers [] = []
tie_numbers (s ∷ states) = neg_ℤ (pos s.place) ∷ pos s.lines ∷ pos (class_index s.class) ∷ tie_numbers states

-- The numbers by which lists of breaks are compared: the total overhang, the total demerits, and then the ends (TeX: The Program, part 39, §874, for
-- the demerits; own: the overhang and the ends).
abbrev pub key : Path → List ℤ
key q = q.overhang ∷ q.demerits ∷ tie_numbers (q.last ∷ q.before)
