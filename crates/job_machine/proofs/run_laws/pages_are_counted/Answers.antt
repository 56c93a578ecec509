use Rattle.std.proofs.Common.{refl}
use Rattle.job_machine.specs.Machine.{first_machine}
use Rattle.job_machine.proofs.RunLaws.{pages_counted}
use Rattle.job_machine.proofs.run_laws.pages_are_counted.Goals as goal

pub returns : goal.returns
returns c files n k commands replies m run = pages_counted (first_machine files) n commands replies m k run refl
