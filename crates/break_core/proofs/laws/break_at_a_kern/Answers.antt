use Rattle.std.proofs.Common.{refl}
use Rattle.break_lines.specs.Legal.{is_dropped, is_glue, is_break, is_legal}
use Rattle.break_core.proofs.laws.break_at_a_kern.Goals as goal

pub returns-clause-places : goal.returns-clause-places
unfolding is_legal is_break is_glue is_dropped
returns-clause-places c = refl

pub returns-clause-first : goal.returns-clause-first
unfolding is_dropped
returns-clause-first c = refl
