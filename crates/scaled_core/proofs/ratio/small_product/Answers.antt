-- A product of small numbers fits in 64 bits.
use Rattle.std.proofs.Common.{ℤ, ◌*ℤ◌, ◌^◌, ◌≡◌, ◌≤◌, to_z, of_z, w64, SFits, arith}
use Rattle.std.specs.Prelude.{unsigned_abs}
use Rattle.std.proofs.lemmas.Int.{ints, fits_signed_mul, to_z-of_z, unsigned_abs-mul}
use Rattle.std.proofs.lemmas.Nat.{mul-le}
use Rattle.scaled_core.proofs.ratio.small_product.Goals as goal

product_is : (a b : ℤ) → SFits w64 a → SFits w64 b → unsigned_abs a ≤ 2 ^ 31 → unsigned_abs b ≤ 2 ^ 31 →
    to_z w64 (of_z w64 (to_z w64 (of_z w64 a) *ℤ to_z w64 (of_z w64 b))) ≡ a *ℤ b
product_is a b a_fits b_fits a_small b_small =
    rw (to_z-of_z w64 a a_fits, to_z-of_z w64 b b_fits) (to_z-of_z w64 (a *ℤ b) (fits_signed_mul w64 a b (2 ^ 31) (2 ^ 31) a_small b_small (omega arith)))

pub returns-then-unsigned_abs-le-SMALL-2-clause-value :
    goal.returns-then-unsigned_abs-le-SMALL-2-clause-value
returns-then-unsigned_abs-le-SMALL-2-clause-value c =
    product_is c.args.a c.args.b c.ranges.a c.ranges.b (omega (arith, ints)) (omega (arith, ints))

pub returns-then-unsigned_abs-le-SMALL-2-clause-value_bounded :
    goal.returns-then-unsigned_abs-le-SMALL-2-clause-value_bounded
returns-then-unsigned_abs-le-SMALL-2-clause-value_bounded c =
    let a_small : unsigned_abs c.args.a ≤ 2 ^ 31 = omega (arith, ints) in
    let b_small : unsigned_abs c.args.b ≤ 2 ^ 31 = omega (arith, ints) in
    rw (product_is c.args.a c.args.b c.ranges.a c.ranges.b a_small b_small, unsigned_abs-mul c.args.a c.args.b)
    (mul-le (unsigned_abs c.args.a) (unsigned_abs c.args.b) (2 ^ 31) (2 ^ 31) a_small b_small)
