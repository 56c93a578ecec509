use Rattle.boxglue_calls.proofs.LineCounts.{count_is}
use Rattle.boxglue_calls.proofs.jobs.laws.lines_are_counted.Goals as goal

pub returns : goal.returns
returns c = count_is
