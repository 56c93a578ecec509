use Rattle.job_core.specs.Jobs.{due_bytes}
use Rattle.job_core.proofs.RestsOfFiles.{none_differ}
use Rattle.job_core.proofs.laws.the_rest_of_one_file_never_differs.Goals as goal

pub returns : goal.returns
returns c job m file holds front goes = none_differ job.began job.past (due_bytes m) file holds.past front goes
