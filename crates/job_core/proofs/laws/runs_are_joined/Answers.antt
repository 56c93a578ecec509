use Rattle.job_core.proofs.WholeRuns.{no_run, one_run, runs_joined}
use Rattle.job_core.proofs.laws.runs_are_joined.Goals as goal

pub returns : goal.returns
returns c = record { none = no_run; step = one_run; joined = runs_joined }
