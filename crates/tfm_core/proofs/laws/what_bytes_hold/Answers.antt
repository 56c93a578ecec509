use Rattle.tfm_core.proofs.ReadingLemmas.{IsFirstBroken-from_read, IsMetricFile-from_read, read-from_IsFirstBroken, read-from_IsMetricFile}
use Rattle.tfm_core.proofs.laws.what_bytes_hold.Goals as goal

pub returns-clause-record_of : goal.returns-clause-record_of
returns-clause-record_of c = λ bytes file. (IsMetricFile-from_read bytes file, read-from_IsMetricFile bytes file)

pub returns-clause-cause : goal.returns-clause-cause
returns-clause-cause c = λ bytes cause. (IsFirstBroken-from_read bytes cause, read-from_IsFirstBroken bytes cause)
