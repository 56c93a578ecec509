-- Numbers in rising order (own).
use Rattle.std.specs.Prelude.{◌≤◌, ℕ, List, [], ◌∷◌}
use Rattle.std.specs.Coded.{×_prop, le_prop}

-- The numbers rise from `from` to `end`; two of them may be equal.
abbrev pub IsRising : (from : ℕ) → List ℕ → (end : ℕ) → Type 0
IsRising from [] end = from ≤ end
IsRising from (n ∷ rest) end = (from ≤ n) × IsRising n rest end

-- That numbers rise is a fact: there is one proof of it at most.
pub IsRising-prop : (from : ℕ) (ns : List ℕ) (end : ℕ) → IsProp (IsRising from ns end)
IsRising-prop from [] end = le_prop
IsRising-prop from (n ∷ rest) end = ×_prop le_prop (IsRising-prop n rest end)
