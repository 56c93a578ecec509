use Rattle.move_core.proofs.Laters.{knows_nothing}
use Rattle.move_core.proofs.later.Later.new.Goals as goal

pub returns : goal.returns
returns c = knows_nothing c.new.result c.new-2.result.items c.new.ensures c.new-2.ensures.items
