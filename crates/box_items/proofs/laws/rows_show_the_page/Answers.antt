use Rattle.box_items.proofs.ShownLaws.{page_shown}
use Rattle.box_items.proofs.laws.rows_show_the_page.Goals as goal

pub returns : goal.returns
returns c = page_shown
