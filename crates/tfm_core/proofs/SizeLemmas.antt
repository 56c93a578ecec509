-- Sizes of a font that fit.
use Rattle.std.proofs.Common.{◌≡◌, ◌↔◌, ℕ, ℤ, pos, negsuc, ◌<◌, true, List, length, get_or, FitsSigned, to_z, of_z, arith, subst, sym}
use Rattle.std.specs.Int.{w64}
use Rattle.std.proofs.lemmas.Int.{to_z-of_z, ints, fits_signed_from_abs}
use Rattle.std.proofs.lemmas.Option.{slice_get-get_or}
use Rattle.scaled_core.specs.Dimensions.{Fits}
use Rattle.scaled_core.proofs.Fitting.{dimension_fits, fits_within}
use Rattle.tfm_core.specs.Fonts.{are_dimens_at, is_dimen_at, is_space_at, parameter}
use Rattle.tfm_core.specs.Scaling.{scaled}
use Rattle.tfm_core.proofs.FontLemmas.{and_true, list_all-at}

-- The test of a dimension holds exactly for the words whose size fits.
pub is_dimen_at-fits : (size word : ℤ) → (is_dimen_at size word ≡ true ↔ Fits (scaled size word))
unfolding is_dimen_at
is_dimen_at-fits size word = (fits_within (scaled size word), dimension_fits (scaled size word))

pub Fits-from_test : (size word : ℤ) → is_dimen_at size word ≡ true → Fits (scaled size word)
Fits-from_test size word h = (is_dimen_at-fits size word).0 h

-- A dimension is the same number in 64 bits.
dimension_in_64 : (z : ℤ) → Fits z → FitsSigned w64 z
dimension_in_64 (pos n) h = fits_signed_from_abs w64 (pos n) (omega (arith, ints, h.high))
dimension_in_64 (negsuc n) h = fits_signed_from_abs w64 (negsuc n) (omega (arith, ints, h.low))

pub Fits-in_64 : (z : ℤ) → Fits z → Fits (to_z w64 (of_z w64 z))
Fits-in_64 z h = subst Fits (sym (to_z-of_z w64 z (dimension_in_64 z h))) h

-- If the test of some words holds, it holds for each of them.
pub dimen-at : (size : ℤ) (words : List ℤ) (i : ℕ) (d : ℤ) → are_dimens_at size words ≡ true → i < length words → is_dimen_at size (get_or words i d) ≡ true
unfolding are_dimens_at
dimen-at size words i d h l =
    list_all-at (is_dimen_at size) words i (get_or words i d) h (slice_get-get_or words i d l)

pub width_fits : (size : ℤ) (parameters : List ℤ) → is_space_at size parameters ≡ true → is_dimen_at size (parameter 2 parameters) ≡ true
unfolding is_space_at
width_fits size parameters h = (and_true _ _ (and_true _ _ h).0).0

pub stretch_fits : (size : ℤ) (parameters : List ℤ) → is_space_at size parameters ≡ true → is_dimen_at size (parameter 3 parameters) ≡ true
unfolding is_space_at
stretch_fits size parameters h = (and_true _ _ (and_true _ _ h).0).1

pub shrink_fits : (size : ℤ) (parameters : List ℤ) → is_space_at size parameters ≡ true → is_dimen_at size (parameter 4 parameters) ≡ true
unfolding is_space_at
shrink_fits size parameters h = (and_true _ _ h).1

pub ruleset dimensions = (Fits-from_test)

pub ruleset tables = (dimen-at, to_z-of_z)

pub ruleset spaces = (width_fits, stretch_fits, shrink_fits)
