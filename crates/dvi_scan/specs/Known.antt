-- The same definitions in two lists, in any order (own).
use Rattle.std.specs.Prelude.{◌≡◌, ◌⊎◌, [], ◌∷◌, List}
use Rattle.dvi_ops.specs.Instruction.{Definition}

-- A definition is among these.
abbrev pub IsAmong : Definition → List Definition → Type 0
IsAmong d [] = ⊥
IsAmong d (x ∷ xs) = (d ≡ x) ⊎ IsAmong d xs

-- Both lists have the same definitions.
pub record HasSame (xs ys : List Definition) : Type 0 where
  pub there : (d : Definition) → IsAmong d xs → IsAmong d ys
  pub back : (d : Definition) → IsAmong d ys → IsAmong d xs
