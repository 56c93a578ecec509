-- Numbers that wrap around at 128 bits.
use Rattle.std.proofs.Common.{◌≡◌, ◌∙◌, ℤ, pos, ◌+ℤ◌, ◌-ℤ◌, refl, ap, sym, subst, FitsSigned}
use Rattle.std.specs.Prelude.{neg_ℤ, ◌^◌, ◌+◌}
use Rattle.std.proofs.Common.{◌<◌, arith, negsuc, of_z, to_z}
use Rattle.scaled_core.specs.Dimensions.{Within}
use Rattle.std.specs.Int.{int_wrap, int_wrapping_add, int_wrapping_sub, w64, w128, cast_signed, cast_unsigned}
use Rattle.std.specs.Int.Signed.{mag}
use Rattle.std.proofs.lemmas.Int.{SFits-int_wrap, ints, int_wrap-add_left, int_wrap-sub_right, int_wrap_fits, to_z-of_z, wrapping_add_is, wrapping_sub_is}
use Rattle.box_items.specs.Rows.{wide_of}

fitting : (a z : ℤ) → a ≡ int_wrap w128 z → FitsSigned w128 a
fitting a z is = subst (λ (x : ℤ). FitsSigned w128 x) (sym is) (SFits-int_wrap w128 z)

-- A number that has wrapped around, as a call passes it.
pub passed_on : (a z : ℤ) → a ≡ int_wrap w128 z → cast_signed w128 (cast_unsigned w128 a) ≡ int_wrap w128 z
passed_on a z is = to_z-of_z w128 a (fitting a z is) ∙ is

-- A number that fits is as it is.
pub placed : (z : ℤ) → Within (2 ^ 126 + 2 ^ 63) z → z ≡ int_wrap w128 z
placed z within = sym (int_wrap_fits w128 z (record { sfits = small z within }))
  where
    small : (z : ℤ) → Within (2 ^ 126 + 2 ^ 63) z → mag z < 2 ^ 127
    small (pos n) within = omega (arith, ints, within.high)
    small (negsuc n) within = omega (arith, ints, within.low)

-- A number of 64 bits in 128 bits, as a call passes it.
pub widened : (a wide : ℤ) → FitsSigned w64 a → wide ≡ to_z w64 (of_z w64 a) → to_z w128 (of_z w128 wide) ≡ a
widened a wide fits is =
    let same : wide ≡ a = is ∙ to_z-of_z w64 a fits in
    ap (λ (z : ℤ). to_z w128 (of_z w128 z)) same ∙ to_z-of_z w128 a (record { sfits = omega (arith, fits.sfits) })

-- A sum and a difference of numbers that may have wrapped around.
pub add_wrapped : (a b z : ℤ) → FitsSigned w128 b → a ≡ int_wrap w128 z → int_wrapping_add w128 a b ≡ int_wrap w128 (z +ℤ b)
add_wrapped a b z g is = wrapping_add_is w128 a b (fitting a z is) g ∙ (ap (λ (x : ℤ). int_wrap w128 (x +ℤ b)) is ∙ int_wrap-add_left w128 z b)

pub sub_wrapped : (a b y z : ℤ) → a ≡ int_wrap w128 y → b ≡ int_wrap w128 z → int_wrapping_sub w128 a b ≡ int_wrap w128 (y -ℤ z)
sub_wrapped a b y z a_is b_is =
    wrapping_sub_is w128 a b (fitting a y a_is) (fitting b z b_is)
    ∙ (ap (λ (x : ℤ). int_wrap w128 (a -ℤ x)) b_is
    ∙ (int_wrap-sub_right w128 a z
    ∙ (ap (λ (x : ℤ). int_wrap w128 (x -ℤ z)) a_is ∙ int_wrap-add_left w128 y (neg_ℤ z))))

-- A distance of 0.
pub wide_zero : record { low = 0; high = pos 0 } ≡ wide_of (pos 0)
unfolding wide_of int_wrap
wide_zero = refl
