-- Statuses of replies.
use Rattle.boxglue_calls.proofs.StatusLaws.{accepted_at_0, end_lacking_at_7, lacking_at_7, run_accepted_at_0, run_lacking_at_7}
use Rattle.boxglue_calls.proofs.laws.statuses_of_replies.Goals as goal

pub returns : goal.returns
returns c = record {
  memory = lacking_at_7;
  end_memory = end_lacking_at_7;
  run_memory = run_lacking_at_7;
  accepted = accepted_at_0;
  run_accepted = run_accepted_at_0;
}
