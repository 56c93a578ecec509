use Rattle.std.proofs.Common.{arith}
use Rattle.boxglue_script.proofs.ShortNumbers.{small_number}
use Rattle.boxglue_script.proofs.values.short_number.Goals as goal

pub overflow_mul-number : goal.overflow_mul-number
overflow_mul-number c =
    omega (arith, small_number c.args.field.now c.loop-byte.byte-index c.loop-byte.number c.loop-byte.invariant.0 c.loop-byte.invariant.1 c.loop-byte-test.true c.if-field-gt-MAX_SHORT_DIGITS.false)

pub overflow_add-number : goal.overflow_add-number
overflow_add-number c =
    omega (arith, c.type_inv.field, c.from.ensures, c.from.type_inv, small_number c.args.field.now c.loop-byte.byte-index c.loop-byte.number c.loop-byte.invariant.0 c.loop-byte.invariant.1 c.loop-byte-test.true c.if-field-gt-MAX_SHORT_DIGITS.false)
