use Rattle.job_machine.proofs.Refusals.{unchanged}
use Rattle.job_machine.proofs.totality_laws.refusals_change_nothing.Goals as goal

pub returns : goal.returns
returns c = unchanged
