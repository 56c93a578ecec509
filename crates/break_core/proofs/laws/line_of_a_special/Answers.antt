use Rattle.std.proofs.Common.{refl}
use Rattle.break_lines.specs.Legal.{is_dropped, is_glue, is_break, is_legal}
use Rattle.break_lines.specs.LineItems.{sums_of}
use Rattle.break_core.proofs.laws.line_of_a_special.Goals as goal

pub returns-clause-places : goal.returns-clause-places
unfolding is_legal is_break is_glue is_dropped
returns-clause-places c = refl

pub returns-clause-kept : goal.returns-clause-kept
unfolding is_dropped
returns-clause-kept c = refl

pub returns-clause-sums : goal.returns-clause-sums
unfolding sums_of is_dropped
returns-clause-sums c = refl

pub returns-clause-alone : goal.returns-clause-alone
unfolding is_legal is_break is_glue is_dropped
returns-clause-alone c = refl

pub returns-clause-whole : goal.returns-clause-whole
unfolding is_dropped
returns-clause-whole c = refl
