use Rattle.pack_core.proofs.Highest.{highest-is, highest-none}
use Rattle.pack_core.proofs.laws.highest_order_is_set.Goals as goal

pub returns-clause-highest_order : goal.returns-clause-highest_order
returns-clause-highest_order c = highest-is

pub returns-clause-none : goal.returns-clause-none
returns-clause-none c = highest-none
