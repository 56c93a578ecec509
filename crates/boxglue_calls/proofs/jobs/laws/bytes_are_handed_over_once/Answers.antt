-- The bytes that were handed over, call by call.
use Rattle.std.proofs.Common.{[], ap}
use Rattle.boxglue_calls.specs.Jobs.{reported_bytes}
use Rattle.boxglue_calls.proofs.HandedBytes.{all_handed, answers_handed, commands_handed, end_handed, finish_handed, given_handed, replies_handed, waits_handed}
use Rattle.boxglue_calls.proofs.jobs.laws.bytes_are_handed_over_once.Goals as goal

pub returns : goal.returns
returns c = record {
  begins = λ files new first. record { rest = []; sent = ap reported_bytes first.silent; count = first.taken };
  goes_on = given_handed;
  all = all_handed;
  waits = waits_handed;
  commands = commands_handed;
  replies = replies_handed;
  answers = answers_handed;
  finish = finish_handed;
  end = end_handed;
}
