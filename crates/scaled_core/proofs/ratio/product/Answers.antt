-- The product of two numbers of 64 bits fits in 128.
use Rattle.std.proofs.Common.{ℤ, ◌*ℤ◌, ◌^◌, ◌≡◌, ◌≤◌, to_z, of_z, arith, SFits, ◌∙◌}
use Rattle.std.specs.Int.{w64, w128}
use Rattle.std.specs.Prelude.{unsigned_abs}
use Rattle.std.proofs.lemmas.Int.{ints, fits_signed_mul, to_z-of_z, unsigned_abs-mul}
use Rattle.std.proofs.lemmas.Nat.{mul-le}
use Rattle.scaled_core.proofs.ratio.product.Goals as goal

-- A number of 64 bits, in 128 bits.
widened : (a wide : ℤ) → SFits w64 a → wide ≡ to_z w64 (of_z w64 a) → to_z w128 (of_z w128 wide) ≡ a
widened a wide fits e = let same : wide ≡ a = e ∙ to_z-of_z w64 a fits in rw same (omega (arith, ints))

small : (a : ℤ) → SFits w64 a → unsigned_abs a ≤ 2 ^ 63
small a fits = omega (arith, ints)

product_fits : (a b : ℤ) → SFits w64 a → SFits w64 b → SFits w128 (a *ℤ b)
product_fits a b a_fits b_fits = fits_signed_mul w128 a b (2 ^ 63) (2 ^ 63) (small a a_fits) (small b b_fits) (omega arith)

product_is : (a b wide_a wide_b : ℤ) → SFits w64 a → SFits w64 b → wide_a ≡ to_z w64 (of_z w64 a) → wide_b ≡ to_z w64 (of_z w64 b) →
    to_z w128 (of_z w128 (to_z w128 (of_z w128 wide_a) *ℤ to_z w128 (of_z w128 wide_b))) ≡ a *ℤ b
product_is a b wide_a wide_b a_fits b_fits e f =
    rw (widened a wide_a a_fits e, widened b wide_b b_fits f) (to_z-of_z w128 (a *ℤ b) (product_fits a b a_fits b_fits))

-- The product in 128 bits.
pub overflow_mul-result : goal.overflow_mul-result
overflow_mul-result c =
    rw (widened c.args.a c.from.result c.ranges.a c.from.ensures, widened c.args.b c.from-2.result c.ranges.b c.from-2.ensures)
    (product_fits c.args.a c.args.b c.ranges.a c.ranges.b)

pub returns-clause-value : goal.returns-clause-value
returns-clause-value c = product_is c.args.a c.args.b c.from.result c.from-2.result c.ranges.a c.ranges.b c.from.ensures c.from-2.ensures

pub returns-clause-value_bounded : goal.returns-clause-value_bounded
returns-clause-value_bounded c =
    rw (product_is c.args.a c.args.b c.from.result c.from-2.result c.ranges.a c.ranges.b c.from.ensures c.from-2.ensures, unsigned_abs-mul c.args.a c.args.b)
    (mul-le (unsigned_abs c.args.a) (unsigned_abs c.args.b) (2 ^ 63) (2 ^ 63) (small c.args.a c.ranges.a) (small c.args.b c.ranges.b))
