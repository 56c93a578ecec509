use Rattle.break_core.proofs.Near.{covered_self}
use Rattle.break_core.proofs.neighbours.group_covering.Goals as goal

pub returns : goal.returns
returns c = covered_self c.args.table.now c.args.group c.requires.group_bounded
