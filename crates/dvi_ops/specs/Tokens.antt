-- Instructions with the bytes that spell them (own), the places of the pages among them, and the place that each page names as the previous one.
use Rattle.std.specs.Prelude.{◌+◌, ◌++◌, [], ◌∷◌, List, length, map, ℕ, ℤ}
use Rattle.std.specs.List.{flat_map}
use Rattle.dvi_ops.specs.Instruction.{Instruction, Bop}
use Rattle.dvi_ops.specs.Table.{Spells}

-- An instruction, and the bytes that spell it in a file.
pub record Token : Type 0 where
  pub says : Instruction
  pub bytes : List ℕ

-- The bytes of a token spell its instruction.
abbrev pub IsSpelled : Token → Type 0
IsSpelled t = Spells t.says t.bytes

-- The instructions of tokens, in order.
abbrev pub token_instructions : List Token → List Instruction
token_instructions tokens = map (λ t. t.says) tokens

-- The bytes of tokens, in order.
abbrev pub token_bytes : List Token → List ℕ
token_bytes tokens = flat_map (λ t. t.bytes) tokens

-- The place of an instruction, if it is a bop, as a list of one or none.
abbrev pub bop_place : ℕ → Instruction → List ℕ
bop_place at (Bop counts pointer) = at ∷ []
bop_place at i = []

-- The places of the bops, where the first instruction is at `at` (DVItype, 15).
abbrev pub places : ℕ → List Token → List ℕ
places at [] = []
places at (t ∷ rest) = bop_place at t.says ++ places (at + length t.bytes) rest

-- The pointer of an instruction, if it is a bop, as a list of one or none.
abbrev pub pointer_of : Instruction → List ℤ
pointer_of (Bop counts pointer) = pointer ∷ []
pointer_of i = []

-- The pointers of the bops, each to the previous bop (DVItype, 15).
abbrev pub pointers : List Instruction → List ℤ
pointers is = flat_map pointer_of is
