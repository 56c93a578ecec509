-- A pass over the instructions of a body with a stack of places, as DVItype does it (DVItype, 15: push and pop; the laws `pass_is_meaning` and
-- `passed_is_body` connect it with `meaning`).
use Rattle.std.specs.Prelude.{[], ◌∷◌, List, None}
use Rattle.dvi_ops.specs.Instruction.{Instruction, Do, Push, Pop}
use Rattle.dvi_ops.specs.Body.{Position, DviState, Meaning, Acts, state_without_mark}
use Rattle.dvi_ops.specs.Forest.{and_then}

-- Each push saves the place, and each pop restores the last saved one. The stack is empty at the end, and a pop on an empty stack has no meaning.
abbrev pub walk : Acts → List Instruction → List Position → DviState → Meaning
walk does [] [] s = state_without_mark s
walk does [] (p ∷ stack) s = None
walk does (Push ∷ rest) stack s = walk does rest (s.place ∷ stack) s
walk does (Pop ∷ rest) [] s = None
walk does (Pop ∷ rest) (p ∷ stack) s = walk does rest stack (record { place = p; font = s.font })
walk does (Do i ∷ rest) stack s = and_then (does i s) (λ t. walk does rest stack t)
walk does (i ∷ rest) stack s = None
