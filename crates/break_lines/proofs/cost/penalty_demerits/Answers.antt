use Rattle.std.proofs.Common.{to_z, of_z, w64, arith}
use Rattle.std.proofs.lemmas.Int.{ints}
use Rattle.break_lines.proofs.Costs.{square_small}
use Rattle.break_lines.proofs.cost.penalty_demerits.Goals as goal

pub overflow_mul-result : goal.overflow_mul-result
overflow_mul-result c =
    let s = square_small (to_z w64 (of_z w64 c.from-penalty.result)) (record { low = omega (arith, ints); high = omega (arith, ints) }) in
    omega (arith, ints, s.low, s.high)

pub returns-then-penalty-gt0-clause-value_bounded : goal.returns-then-penalty-gt0-clause-value_bounded
returns-then-penalty-gt0-clause-value_bounded c =
    let s = square_small (to_z w64 (of_z w64 c.from-penalty.result)) (record { low = omega (arith, ints); high = omega (arith, ints) }) in
    record { low = omega (arith, ints, s.low, s.high); high = omega (arith, ints, s.low, s.high) }

pub overflow_mul-result-then-penalty-gtminus10000 :
    goal.overflow_mul-result-then-penalty-gtminus10000
overflow_mul-result-then-penalty-gtminus10000 c =
    let s = square_small (to_z w64 (of_z w64 c.from-penalty.result)) (record { low = omega (arith, ints); high = omega (arith, ints) }) in
    omega (arith, ints, s.low, s.high)

pub overflow_sub-result : goal.overflow_sub-result
overflow_sub-result c =
    let s = square_small (to_z w64 (of_z w64 c.from-penalty.result)) (record { low = omega (arith, ints); high = omega (arith, ints) }) in
    omega (arith, ints, s.low, s.high)

pub returns-then-penalty-gtminus10000-clause-value_bounded :
    goal.returns-then-penalty-gtminus10000-clause-value_bounded
returns-then-penalty-gtminus10000-clause-value_bounded c =
    let s = square_small (to_z w64 (of_z w64 c.from-penalty.result)) (record { low = omega (arith, ints); high = omega (arith, ints) }) in
    record { low = omega (arith, ints, s.low, s.high); high = omega (arith, ints, s.low, s.high) }
