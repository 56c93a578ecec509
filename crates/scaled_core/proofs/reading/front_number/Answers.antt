use Rattle.std.proofs.Common.{◌≤◌, length, ap, arith}
use Rattle.std.proofs.lemmas.Grind.{common_steps}
use Rattle.scaled_core.proofs.DigitLemmas.{digits, digit_at}
use Rattle.scaled_core.proofs.ShortTexts.{front-short, power-next, power-most}
use Rattle.scaled_core.proofs.reading.front_number.Goals as goal

pub overflow_mul-value : goal.overflow_mul-value
overflow_mul-value c =
    let few : c.loop-digit.digit-index ≤ 8 = omega (arith, c.loop-digit-test.true, ap length c.digits_first.ensures.digits, front-short c.args.text.now, c.requires) in
    omega (arith, c.loop-digit.invariant.scale, c.loop-digit.invariant.below, power-most c.loop-digit.digit-index 8 few)

pub overflow_sub-digit : goal.overflow_sub-digit
overflow_sub-digit c = omega (arith, digit_at c.digits_first.result.0.now c.loop-digit.digit-index c.digits_first.ensures.all c.loop-digit-test.true)

pub overflow_add-value : goal.overflow_add-value
overflow_add-value c =
    let few : c.loop-digit.digit-index ≤ 8 = omega (arith, c.loop-digit-test.true, ap length c.digits_first.ensures.digits, front-short c.args.text.now, c.requires) in
    let digit = digit_at c.digits_first.result.0.now c.loop-digit.digit-index c.digits_first.ensures.all c.loop-digit-test.true in
    omega (arith, c.loop-digit.invariant.scale, c.loop-digit.invariant.below, power-most c.loop-digit.digit-index 8 few, digit)

pub overflow_mul-scale : goal.overflow_mul-scale
overflow_mul-scale c =
    let few : c.loop-digit.digit-index ≤ 8 = omega (arith, c.loop-digit-test.true, ap length c.digits_first.ensures.digits, front-short c.args.text.now, c.requires) in
    omega (arith, c.loop-digit.invariant.scale, power-most c.loop-digit.digit-index 8 few)

pub loop-digit-preserved : goal.loop-digit-preserved
loop-digit-preserved c =
    let digit = digit_at c.digits_first.result.0.now c.loop-digit.digit-index c.digits_first.ensures.all c.loop-digit-test.true in
    record {
      value = grind (arith, common_steps, digits);
      scale = omega (arith, c.loop-digit.invariant.scale, power-next c.loop-digit.digit-index);
      below = omega (arith, c.loop-digit.invariant.below, digit);
    }

pub returns-clause-scale_bounded : goal.returns-clause-scale_bounded
returns-clause-scale_bounded c =
    let few : c.loop-digit.digit-index ≤ 9 =
    omega (arith, c.loop-digit.auto.digit-index-end, ap length c.digits_first.ensures.digits, front-short c.args.text.now, c.requires) in
    omega (arith, c.loop-digit.invariant.scale, power-most c.loop-digit.digit-index 9 few)
