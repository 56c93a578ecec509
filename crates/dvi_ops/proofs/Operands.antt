-- The bytes of an operand.
use Rattle.std.proofs.Common.{ℕ, ℤ, ◌≡◌, ◌≤◌, ◌-◌, take, drop}
use Rattle.std.proofs.lemmas.Int.{to_z-of_z}
use Rattle.std.specs.Int.{w32, cast_unsigned}
use Rattle.byteorder.proofs.Bytes.{between-bytes_high_first}
use Rattle.dvi_ops.specs.Spelling.{operand}

-- The lowest bytes are the last ones.
pub last_bytes : (n : ℕ) (z : ℤ) → n ≤ 4 → take (4 - (4 - n)) (drop (4 - n) (operand 4 z)) ≡ operand n z
unfolding operand
last_bytes n z h = between-bytes_high_first 4 n (cast_unsigned w32 z) h

pub ruleset operands = (last_bytes, to_z-of_z)
