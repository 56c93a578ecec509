use Rattle.std.proofs.Common.{refl}
use Rattle.std.specs.Fmt.{digits}
use Rattle.scaled_core.specs.Rounding.{nearest}
use Rattle.scaled_core.specs.PrintedDimensions.{dimension_text, fraction_places, nearest_decimal, reads_back, shortest_fraction, size_text}
use Rattle.scaled_core.proofs.laws.printed_texts.Goals as goal

pub returns-clause-five : goal.returns-clause-five
unfolding dimension_text size_text shortest_fraction fraction_places reads_back nearest_decimal nearest digits
returns-clause-five c = refl

pub returns-clause-one : goal.returns-clause-one
unfolding dimension_text size_text shortest_fraction fraction_places reads_back nearest_decimal nearest digits
returns-clause-one c = refl

pub returns-clause-minus : goal.returns-clause-minus
unfolding dimension_text size_text shortest_fraction fraction_places reads_back nearest_decimal nearest digits
returns-clause-minus c = refl
