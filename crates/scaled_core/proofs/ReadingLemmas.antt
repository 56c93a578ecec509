-- The value of a text whose whole part is cut at 2 ^ 30, above which nothing fits.
use Rattle.std.proofs.Common.{◌≡◌, ℕ, ℤ, ◌+◌, ◌*◌, ◌^◌, ◌<◌, ◌≤◌, Bool, true, false, Some, None, Ok, Err, zero, suc, ⊎_elim, min, sym, ◌∙◌, refl, arith, unsigned_abs}
use Rattle.std.proofs.Math.Nat.{mul-le-mul, le-div_iff_mul-le}
use Rattle.std.proofs.lemmas.Bool.{cases_lt}
use Rattle.std.proofs.lemmas.Bool.Decides.{nat_tests}
use Rattle.scaled_core.specs.declared.units.LengthUnit.{LengthUnit}
use Rattle.scaled_core.specs.declared.units.LengthUnit.TheVariants.{Point, Inch, Pica, Centimeter, Millimeter, BigPoint, DidotPoint, Cicero, ScaledPoint}
use Rattle.scaled_core.specs.declared.fault.DimenFault.TheVariants.{TooLarge, NotADimension}
use Rattle.scaled_core.specs.Units.{of_points, scaled_points}
use Rattle.scaled_core.specs.ParsedTexts.{parsed_value, with_minus}

-- The sign does not change the size.
pub unsigned_abs-with_minus : (negative : Bool) (size : ℕ) → unsigned_abs (with_minus negative size) ≡ size
unsigned_abs-with_minus true zero = refl
unsigned_abs-with_minus true (suc n) = refl
unsigned_abs-with_minus false n = refl

fitted_large : (value : ℤ) (size : ℕ) → unsigned_abs value ≡ size → 2 ^ 30 ≤ size → parsed_value (Some value) ≡ Err TooLarge
unfolding parsed_value
fitted_large value size e h = grind (arith, nat_tests)

fitted_small : (value : ℤ) (size : ℕ) → unsigned_abs value ≡ size → size ≤ 1073741823 → parsed_value (Some value) ≡ Ok value
unfolding parsed_value
fitted_small value size e h = grind (arith, nat_tests)

-- A size from 2 ^ 30 on does not fit.
pub parsed_value-large : (negative : Bool) (size : ℕ) → 2 ^ 30 ≤ size → parsed_value (Some (with_minus negative size)) ≡ Err TooLarge
parsed_value-large negative size h = fitted_large _ size (unsigned_abs-with_minus negative size) h

-- A size below 2 ^ 30 fits.
pub parsed_value-small : (negative : Bool) (size : ℕ) → size ≤ 1073741823 → parsed_value (Some (with_minus negative size)) ≡ Ok (with_minus negative size)
parsed_value-small negative size h = fitted_small _ size (unsigned_abs-with_minus negative size) h

-- A text without a value is refused as no dimension.
pub parsed_value-none : parsed_value None ≡ Err NotADimension
unfolding parsed_value
parsed_value-none = refl

-- A unit of a point or more: n of them are no less than n scaled points.
pub of_points-le : (n f num den : ℕ) → 0 < den → den ≤ num → n ≤ of_points n f num den
unfolding of_points
of_points-le n f num den positive h =
    let scaled : n * den ≤ (65536 * n + f) * num = omega (arith, mul-le-mul {n₁ = n} {m₁ = den} {n₂ = 65536 * n + f} {m₂ = num} (omega arith) h) in
    (le-div_iff_mul-le {k = den} {x = n} {y = (65536 * n + f) * num} positive).1 scaled

-- n units are no less than n scaled points.
pub scaled_points-le : (unit : LengthUnit) (n f : ℕ) → n ≤ scaled_points unit n f
scaled_points-le Point n f = of_points-le n f 1 1 (omega arith) (omega arith)
scaled_points-le Inch n f = of_points-le n f 7227 100 (omega arith) (omega arith)
scaled_points-le Pica n f = of_points-le n f 12 1 (omega arith) (omega arith)
scaled_points-le Centimeter n f = of_points-le n f 7227 254 (omega arith) (omega arith)
scaled_points-le Millimeter n f = of_points-le n f 7227 2540 (omega arith) (omega arith)
scaled_points-le BigPoint n f = of_points-le n f 7227 7200 (omega arith) (omega arith)
scaled_points-le DidotPoint n f = of_points-le n f 1238 1157 (omega arith) (omega arith)
scaled_points-le Cicero n f = of_points-le n f 14856 1157 (omega arith) (omega arith)
scaled_points-le ScaledPoint n f = omega arith

-- So the whole part can be cut at 2 ^ 30.
pub parsed_value-capped : (negative : Bool) (unit : LengthUnit) (n f : ℕ) → parsed_value (Some (with_minus negative (scaled_points unit (min n (2 ^ 30)) f))) ≡ parsed_value (Some (with_minus negative (scaled_points unit n f)))
parsed_value-capped negative unit n f = ⊎_elim
    (λ (low : n < 2 ^ 30). let e : min n (2 ^ 30) ≡ n = omega arith in rw e refl)
    (λ (high : 2 ^ 30 ≤ n).
    let e : min n (2 ^ 30) ≡ 2 ^ 30 = omega arith in
    rw e (parsed_value-large negative _ (omega (arith, scaled_points-le unit (2 ^ 30) f)) ∙ sym (parsed_value-large negative _ (omega (arith, scaled_points-le unit n f)))))
    (cases_lt n (2 ^ 30))

pub ruleset measuring = (parsed_value-capped, parsed_value-none)

pub ruleset fitting = (parsed_value-large, parsed_value-small)
