-- The instructions of a page body whose characters stand apart (own).
use Rattle.std.specs.Prelude.{◌-◌, ◌++◌, [], ◌∷◌, ℕ, pos, List, map, take, drop}
use Rattle.dvi_ops.specs.Instruction.{SetChar, Instruction, Do}
use Rattle.dvi_ops.specs.View.{body_view}
use Rattle.dvi_ops.specs.declared.page_runs.PageRuns.{PageRuns}

-- Characters with these codes.
abbrev pub characters : List ℕ → List Instruction
characters codes = map (λ c. Do (SetChar (pos c))) codes

-- Characters with these codes, and each instruction where as many characters stand before it as its place says. `from` is the number of characters
-- before these codes.
abbrev pub woven_instructions : (from : ℕ) → (codes places : List ℕ) → List Instruction → List Instruction
woven_instructions from codes [] is = characters codes
woven_instructions from codes (place ∷ places) [] = characters codes
woven_instructions from codes (place ∷ places) (i ∷ is) =
    characters (take (place - from) codes) ++ i ∷ woven_instructions place (drop (place - from) codes) places is

-- The instructions of a body in order.
unfoldable pub instructions_of : PageRuns → List Instruction
instructions_of runs = woven_instructions 0 runs.codes.items runs.places.items (map body_view runs.ops.items)
