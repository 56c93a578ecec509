use Rattle.std.proofs.Common.{◌≡◌, ◌≤◌, length, nat_eq, false, arith}
use Rattle.std.proofs.lemmas.Int.{ints}
use Rattle.dvi_ops.proofs.Numbers.{short_below}
use Rattle.dvi_ops.proofs.operand.code_of.Goals as goal

pub overflow_cast-result : goal.overflow_cast-result
overflow_cast-result c =
    let h : length c.args.operand.now ≤ 3 = omega arith in
    let small = short_below (length c.args.operand.now) c.args.operand.now h (λ k. (c.type_inv.operand k).fits) in
    omega (arith, ints)

pub returns : goal.returns
returns c =
    let h : length c.args.operand.now ≤ 3 = omega arith in
    let small = short_below (length c.args.operand.now) c.args.operand.now h (λ k. (c.type_inv.operand k).fits) in
    let other : nat_eq (length c.args.operand.now) 4 ≡ false = grind arith in
    rw other (omega (arith, ints))
