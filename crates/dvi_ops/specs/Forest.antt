-- The body of a page as a forest: instructions, and groups between push and pop (DVItype, 14 and 15).
use Rattle.std.specs.Prelude.{◌++◌, [], ◌∷◌, ◌+◌, max, List, ℕ, ℤ, IsTrue, Option, Some, None}
use Rattle.dvi_ops.specs.Instruction.{BodyLeaf, Instruction, Do, Push, Pop}
use Rattle.dvi_ops.specs.Body.{Position, DviState, Meaning, Acts, state_without_mark, in_range}
use Rattle.scaled_core.specs.Mark.{Mark}

-- An empty body; an instruction and the rest; or a group and the rest.
pub data Forest : Type 0 where
  Empty : Forest
  Then : BodyLeaf → Forest → Forest
  Group : Forest → Forest → Forest

-- The instructions of a body in order, with a push before each group and a pop after it.
abbrev pub flat : Forest → List Instruction
flat Empty = []
flat (Then i rest) = Do i ∷ flat rest
flat (Group inner rest) = Push ∷ (flat inner ++ Pop ∷ flat rest)

-- A meaning with more marks before its own marks.
abbrev pub marks_before : List Mark → Meaning → Meaning
marks_before marks None = None
marks_before marks (Some (more, s)) = Some (marks ++ more, s)

-- A meaning, and then a second one from its last state.
abbrev pub and_then : Meaning → (DviState → Meaning) → Meaning
and_then None next = None
and_then (Some (marks, s)) next = marks_before marks (next s)

-- The state after a group: the place from before it, and the font from its end (DVItype, 15: pop).
abbrev pub restored_meaning : Position → Meaning → Meaning
restored_meaning p None = None
restored_meaning p (Some (marks, s)) = Some (marks, record { place = p; font = s.font })

-- The marks of a body, and the state after it.
abbrev pub meaning : Acts → Forest → DviState → Meaning
meaning does Empty s = state_without_mark s
meaning does (Then i rest) s = and_then (does i s) (λ t. meaning does rest t)
meaning does (Group inner rest) s = and_then (restored_meaning s.place (meaning does inner s)) (λ t. meaning does rest t)

-- The greatest number of groups that are open at once.
abbrev pub nests : Forest → ℕ
nests Empty = 0
nests (Then i rest) = nests rest
nests (Group inner rest) = max (nests inner + 1) (nests rest)

-- The marks of a meaning, without the state after them.
abbrev pub marks_of : Meaning → Option (List Mark)
marks_of None = None
marks_of (Some (marks, s)) = Some marks

-- The concatenation of two bodies (own).
abbrev pub joined_bodies : Forest → Forest → Forest
joined_bodies Empty g = g
joined_bodies (Then i f) g = Then i (joined_bodies f g)
joined_bodies (Group inner f) g = Group inner (joined_bodies f g)

-- The place (h, v) after a meaning, and the places from there on; an empty list where there is no meaning (own).
abbrev pub points_then : Meaning → (DviState → List (ℤ × ℤ)) → List (ℤ × ℤ)
points_then None next = []
points_then (Some (marks, s)) next = (s.place.h, s.place.v) ∷ next s

-- The places (h, v) after each instruction and after each group of a body, as far as there is a meaning (own).
abbrev pub points : Acts → Forest → DviState → List (ℤ × ℤ)
points does Empty s = []
points does (Then i rest) s = points_then (does i s) (λ t. points does rest t)
points does (Group inner rest) s = points does inner s ++ points_then (restored_meaning s.place (meaning does inner s)) (λ t. points does rest t)

-- A place in signed 32 bits (own).
abbrev pub IsPoint : ℤ × ℤ → Type 0
IsPoint (h, v) = IsTrue (in_range h) × IsTrue (in_range v)
