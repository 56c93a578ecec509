use Rattle.job_machine.proofs.RunLaws.{files_kept}
use Rattle.job_machine.proofs.run_laws.runs_keep_files.Goals as goal

pub returns : goal.returns
returns c m next n k commands replies = files_kept m n commands replies next k
