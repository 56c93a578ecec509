use Rattle.node_core.specs.declared.limits.TheConstants.{REGISTERS}
use Rattle.job_state.proofs.Tables.{filled_empty}
use Rattle.job_state.proofs.table.Table.new.Goals as goal

pub returns : goal.returns
returns c = filled_empty REGISTERS c.in_ok-used.used.items c.in_ok-used.ensures.items
