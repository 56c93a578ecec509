use Rattle.job_core.proofs.WholeRuns.{done}
use Rattle.job_core.proofs.laws.headline.Goals as goal

pub returns : goal.returns
returns c = done
