use Rattle.job_core.proofs.LosslessRuns.{run_kept, end_kept}
use Rattle.job_core.proofs.laws.no_reply_is_device_without_a_failure.Goals as goal

pub returns : goal.returns
returns c = record {
  runs = λ m next n k commands replies. run_kept m n commands replies next k;
  ends = λ m next n k end. end_kept m n end next k;
}
