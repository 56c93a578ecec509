use Rattle.std.proofs.Common.{refl}
use Rattle.scaled_core.specs.Rounding.{nearest}
use Rattle.scaled_core.specs.Badness.{badness_of, badness_ratio, ratio_badness}
use Rattle.break_lines.specs.Costs.{line_fit, fit_by, fit_short, fit_long, stretches_forever, stretched_class, shrunk_class, demerits_of, base_demerits, penalty_demerits, adjacent_demerits, is_apart}
use Rattle.break_lines.proofs.laws.last_line.Goals as goal

pub returns-clause-badness : goal.returns-clause-badness
unfolding line_fit fit_by fit_short fit_long stretches_forever stretched_class shrunk_class badness_of badness_ratio ratio_badness nearest
returns-clause-badness c = refl

pub returns-clause-demerits : goal.returns-clause-demerits
unfolding line_fit fit_by fit_short fit_long stretches_forever stretched_class shrunk_class badness_of badness_ratio ratio_badness nearest demerits_of base_demerits penalty_demerits adjacent_demerits is_apart
returns-clause-demerits c = refl
