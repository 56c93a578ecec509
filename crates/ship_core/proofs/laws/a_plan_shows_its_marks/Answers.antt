use Rattle.ship_core.proofs.DrawnPages.{drawn_page}
use Rattle.ship_core.proofs.laws.a_plan_shows_its_marks.Goals as goal

pub returns : goal.returns
returns c = drawn_page
