use Rattle.boxglue_calls.proofs.JobGlyphs.{items_shown}
use Rattle.boxglue_calls.proofs.jobs.item_laws.items_show_the_page.Goals as goal

pub returns : goal.returns
returns c = items_shown
