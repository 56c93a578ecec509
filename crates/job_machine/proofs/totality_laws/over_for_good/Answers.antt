use Rattle.job_machine.proofs.Refusals.{over_run, over_finish}
use Rattle.job_machine.proofs.totality_laws.over_for_good.Goals as goal

pub returns : goal.returns
returns c = record { runs = over_run; finish = over_finish }
