use Rattle.std.proofs.Common.{refl}
use Rattle.std.specs.Fmt.{digits}
use Rattle.scaled_core.specs.Rounding.{nearest}
use Rattle.scaled_core.specs.Units.{of_points}
use Rattle.scaled_core.specs.DimensionTexts.{decimal_fraction}
use Rattle.scaled_core.specs.ParsedTexts.{text_after_digits, text_after_fraction, text_after_sign, dimension_value, front_digits, is_negative, written_value, point_digits, unit_named}
use Rattle.scaled_core.specs.PrintedDimensions.{dimension_text, fraction_places, nearest_decimal, reads_back, shortest_fraction, size_text}
use Rattle.scaled_core.proofs.laws.greatest_dimension.Goals as goal

pub returns-clause-read : goal.returns-clause-read
unfolding dimension_value written_value is_negative text_after_sign front_digits text_after_digits point_digits text_after_fraction unit_named decimal_fraction nearest of_points
returns-clause-read c = refl

pub returns-clause-printed : goal.returns-clause-printed
unfolding dimension_text size_text shortest_fraction fraction_places reads_back nearest_decimal nearest digits
returns-clause-printed c = refl
