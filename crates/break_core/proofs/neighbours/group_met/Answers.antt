use Rattle.break_core.proofs.Near.{met_self}
use Rattle.break_core.proofs.neighbours.group_met.Goals as goal

pub returns : goal.returns
returns c = met_self c.args.table.now c.args.group c.requires.group_bounded
