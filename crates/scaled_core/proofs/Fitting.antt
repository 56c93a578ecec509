-- The two forms of "fits as a dimension": the test and the range.
use Rattle.std.proofs.Common.{◌≡◌, ℤ, pos, negsuc, suc, true, Bool, false, Some, None, arith, refl}
use Rattle.std.specs.Prelude.{if◌then◌else◌}
use Rattle.std.proofs.lemmas.Bool.{leb-true, le-leb}
use Rattle.std.proofs.lemmas.Int.{ints}
use Rattle.scaled_core.specs.Dimensions.{Fits, fits, dimension_of}

-- What is in the range passes the test.
pub dimension_fits : (z : ℤ) → Fits z → fits z ≡ true
dimension_fits (pos n) within = le-leb n 1073741823 (omega (arith, ints, within.high))
dimension_fits (negsuc n) within = le-leb (suc n) 1073741823 (omega (arith, ints, within.low))

-- What passes the test is in the range.
pub fits_within : (z : ℤ) → fits z ≡ true → Fits z
fits_within (pos n) fit = let high = leb-true n 1073741823 fit in record { low = omega (arith, ints); high = omega (arith, ints) }
fits_within (negsuc n) fit = let low = leb-true (suc n) 1073741823 fit in record { low = omega (arith, ints); high = omega (arith, ints) }

-- A number that fits is its dimension, and one that does not has none.
pub some_dimension : (z : ℤ) → Fits z → Some z ≡ dimension_of z
unfolding dimension_of
some_dimension z within = rw (dimension_fits z within) refl

pub no_dimension : (z : ℤ) → (Fits z → ⊥) → None ≡ dimension_of z
unfolding dimension_of
no_dimension z misfit = here (fits z) refl
  where
    here : (b : Bool) → fits z ≡ b → None ≡ dimension_of z
    here true e = absurd (misfit (fits_within z e))
    here false e = rw e refl

-- The number of a dimension fits, and is the dimension; a number without one does not fit.
pub dimension_found : (z d : ℤ) → dimension_of z ≡ Some d → (fits z ≡ true) × (z ≡ d)
unfolding dimension_of
dimension_found z d found = here (fits z) found
  where
    here : (b : Bool) → (if b then Some z else None) ≡ Some d → (b ≡ true) × (z ≡ d)
    here true e = (refl, cc)
    here false e = absurd (cc)

pub dimension_missing : (z : ℤ) → dimension_of z ≡ None → fits z ≡ false
unfolding dimension_of
dimension_missing z missing = here (fits z) missing
  where
    here : (b : Bool) → (if b then Some z else None) ≡ None → b ≡ false
    here true e = absurd (cc)
    here false e = refl

pub ruleset dimensions = (some_dimension, no_dimension)
