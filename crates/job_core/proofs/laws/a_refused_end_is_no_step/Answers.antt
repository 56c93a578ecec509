use Rattle.job_core.proofs.WholeRuns.{refused_end}
use Rattle.job_core.proofs.laws.a_refused_end_is_no_step.Goals as goal

pub returns : goal.returns
returns c = refused_end
