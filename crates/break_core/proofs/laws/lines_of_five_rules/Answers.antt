use Rattle.std.proofs.Common.{refl}
use Rattle.break_lines.specs.Legal.{is_dropped, is_glue, is_break, is_legal}
use Rattle.break_lines.specs.LineItems.{sums_of}
use Rattle.break_core.proofs.laws.lines_of_five_rules.Goals as goal

pub returns-clause-places : goal.returns-clause-places
unfolding is_legal is_break is_glue is_dropped
returns-clause-places c = refl

pub returns-clause-second : goal.returns-clause-second
unfolding is_dropped
returns-clause-second c = refl

pub returns-clause-first_sums : goal.returns-clause-first_sums
unfolding sums_of is_dropped
returns-clause-first_sums c = refl

pub returns-clause-second_sums : goal.returns-clause-second_sums
unfolding sums_of is_dropped
returns-clause-second_sums c = refl

pub returns-clause-last_sums : goal.returns-clause-last_sums
unfolding sums_of is_dropped
returns-clause-last_sums c = refl
