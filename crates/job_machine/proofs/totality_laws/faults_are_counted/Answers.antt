use Rattle.job_machine.proofs.Refusals.{counted_fault}
use Rattle.job_machine.proofs.totality_laws.faults_are_counted.Goals as goal

pub returns : goal.returns
returns c = counted_fault
