use Rattle.std.proofs.Common.{◌+ℤ◌, to_z, of_z, w64, arith}
use Rattle.std.proofs.lemmas.Int.{ints}
use Rattle.break_lines.proofs.Costs.{square_small}
use Rattle.break_lines.proofs.cost.base_demerits.Goals as goal

pub returns-clause-value_bounded : goal.returns-clause-value_bounded
returns-clause-value_bounded c =
    let s = square_small (to_z w64 (of_z w64 (to_z w64 (of_z w64 c.from.result) +ℤ to_z w64 (of_z w64 c.from-2.result))))
    (record { low = omega (arith, ints); high = omega (arith, ints) }) in
    record { low = omega (arith, ints, s.low, s.high); high = omega (arith, ints, s.low, s.high) }
