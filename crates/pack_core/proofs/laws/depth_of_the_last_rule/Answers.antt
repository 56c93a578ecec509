use Rattle.pack_core.proofs.Sums.{pending-last, pending-none}
use Rattle.pack_core.proofs.laws.depth_of_the_last_rule.Goals as goal

pub returns-clause-last : goal.returns-clause-last
returns-clause-last c = pending-last

pub returns-clause-none : goal.returns-clause-none
returns-clause-none c = pending-none
