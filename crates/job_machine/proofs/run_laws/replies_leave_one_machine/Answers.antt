use Rattle.job_machine.proofs.OneRun.{runs_agree, ends_agree}
use Rattle.job_machine.proofs.run_laws.replies_leave_one_machine.Goals as goal

pub returns : goal.returns
returns c = record { runs = runs_agree; ends = ends_agree }
