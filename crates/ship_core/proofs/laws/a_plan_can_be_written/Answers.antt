use Rattle.ship_core.proofs.DrawnPages.{writable_page, no_register_page, nests_page}
use Rattle.ship_core.proofs.laws.a_plan_can_be_written.Goals as goal

pub returns-clause-written : goal.returns-clause-written
returns-clause-written c = writable_page

pub returns-clause-plain : goal.returns-clause-plain
returns-clause-plain c = no_register_page

pub returns-clause-nests : goal.returns-clause-nests
returns-clause-nests c = nests_page
