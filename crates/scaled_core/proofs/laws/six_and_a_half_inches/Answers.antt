use Rattle.std.proofs.Common.{refl}
use Rattle.scaled_core.specs.Rounding.{nearest}
use Rattle.scaled_core.specs.Units.{of_points}
use Rattle.scaled_core.specs.DimensionTexts.{decimal_fraction}
use Rattle.scaled_core.specs.ParsedTexts.{text_after_digits, text_after_fraction, text_after_sign, dimension_value, front_digits, is_negative, written_value, point_digits, unit_named}
use Rattle.scaled_core.proofs.laws.six_and_a_half_inches.Goals as goal

pub returns : goal.returns
unfolding dimension_value written_value is_negative text_after_sign front_digits text_after_digits point_digits text_after_fraction unit_named decimal_fraction nearest of_points
returns c = refl
