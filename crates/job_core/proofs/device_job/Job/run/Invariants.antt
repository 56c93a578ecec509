use Rattle.std.proofs.Common.{◌≡◌, true, ◌≤◌, ◌+◌, ◌-◌, ◌++◌, List, length, take, vec_len}
use Rattle.std.specs.Prelude.{vec_capacity}
use Rattle.job_machine.specs.Reply.{Reply}
use Rattle.dvi_write.specs.Writing.{GoesOn}
use Rattle.job_core.specs.Jobs.{RunsTo, writing_of}
use Rattle.job_core.proofs.device_job.Job.run.Given as goal

abbrev pub invariant-loop-command : goal.invariant-loop-command
invariant-loop-command g l = record {
  ran : (added : List Reply) × (l.replies.items ≡ l.initial.replies.items ++ added) × RunsTo l.initial.self (take l.command-index l.commands) added l.self;
  idle : l.initial.self.state.over ≡ true → l.self ≡ l.initial.self;
  goes_on : GoesOn (writing_of l.initial.self) (writing_of l.self);
  space : vec_len l.replies + (length l.commands - l.command-index) ≤ vec_capacity l.replies;
}
