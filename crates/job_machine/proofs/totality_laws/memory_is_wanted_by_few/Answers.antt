use Rattle.job_machine.proofs.Refusals.{takes_memory}
use Rattle.job_machine.proofs.totality_laws.memory_is_wanted_by_few.Goals as goal

pub returns : goal.returns
returns c = takes_memory
