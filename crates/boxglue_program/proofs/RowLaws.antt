-- The texts of known answers.
use Rattle.std.proofs.Common.{refl}
use Rattle.std.specs.Fmt.{digits}
use Rattle.scaled_core.specs.Rounding.{nearest}
use Rattle.scaled_core.specs.PrintedDimensions.{dimension_text, size_text, shortest_fraction, fraction_places, nearest_decimal, reads_back}
use Rattle.boxglue_program.specs.Texts.{points_text, sizes_text, refusal_text, answer_text, answer_line, end_line, answers_text}
use Rattle.boxglue_program.specs.Rows.{OneRuleAnswers, TextAnswers}

pub one_rule_written : OneRuleAnswers
unfolding points_text sizes_text refusal_text answer_text answer_line end_line answers_text dimension_text size_text shortest_fraction fraction_places nearest_decimal reads_back nearest digits
one_rule_written = refl

pub text_answers_written : TextAnswers
unfolding refusal_text answer_text answer_line end_line answers_text digits
text_answers_written = refl
