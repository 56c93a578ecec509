-- The product fits in 64 bits.
use Rattle.std.proofs.Common.{ℤ, pos, ◌*ℤ◌, ◌≡◌, ◌^◌, ◌∙◌, to_z, of_z, w64, arith, rules, refl, SFits}
use Rattle.std.proofs.lemmas.Int.{ints, fits_signed_mul, to_z-of_z}
use Rattle.tfm_core.proofs.scaling.floor.Goals as goal

-- The product of a word and a size.
pub overflow_mul-from : goal.overflow_mul-from
overflow_mul-from c =
    fits_signed_mul w64 (to_z w64 (of_z w64 c.from.result)) (to_z w64 (of_z w64 c.from-2.result)) (2 ^ 31) (2 ^ 27) (omega (arith, ints)) (omega (arith, ints)) (omega arith)

pub returns-clause-value : goal.returns-clause-value
returns-clause-value c =
    let a : ℤ = to_z w64 (of_z w64 c.from.result) in
    let b : ℤ = to_z w64 (of_z w64 c.from-2.result) in
    let fits : SFits w64 (a *ℤ b) = fits_signed_mul w64 a b (2 ^ 31) (2 ^ 27) (omega (arith, ints)) (omega (arith, ints)) (omega arith) in
    let fix : a ≡ c.args.fix = omega (arith, ints) in
    let kept : b ≡ pos c.args.kept = omega (arith, ints) in
    let quotient : SFits w64 c.div_euclid.result = search rules in
    to_z-of_z w64 c.div_euclid.result quotient ∙ c.div_euclid.ensures ∙ rw (to_z-of_z w64 (a *ℤ b) fits, fix, kept) refl
