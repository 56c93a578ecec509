-- The rest of `Pushes`, which no public contract reaches (own).
use Rattle.std.specs.Prelude.{ℕ, max, List, [], ◌∷◌}
use Rattle.dvi_ops.specs.Instruction.{Instruction}
use Rattle.ship_core.specs.Pushes.{pushed_after}

-- The greatest number of pushes that are open at once among these instructions, where `pushed` are open before them.
abbrev pub max_pushed : (pushed : ℕ) → List Instruction → ℕ
max_pushed pushed [] = pushed
max_pushed pushed (i ∷ rest) = max pushed (max_pushed (pushed_after pushed i) rest)
