-- The pushes that are open after an instruction, and the most of them (own).
use Rattle.std.specs.Prelude.{ℕ, ◌+◌, ◌-◌}
use Rattle.dvi_ops.specs.Instruction.{Instruction, Push, Pop}

-- The number of open pushes after an instruction. A pop without an open push changes nothing.
abbrev pub pushed_after : (pushed : ℕ) → Instruction → ℕ
pushed_after pushed Push = pushed + 1
pushed_after pushed Pop = pushed - 1
pushed_after pushed i = pushed
