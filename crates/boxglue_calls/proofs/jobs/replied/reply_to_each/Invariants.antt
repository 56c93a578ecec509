-- The lines so far were run, and their rows are written.
use Rattle.std.proofs.Common.{◌≡◌, ◌++◌, true, List, length, take, drop}
use Rattle.job_machine.specs.Reply.{Reply}
use Rattle.dvi_write.specs.Writing.{GoesOn}
use Rattle.job_core.specs.Jobs.{RunsTo, writing_of}
use Rattle.boxglue_program.specs.Runs.{commands_of, line_numbers}
use Rattle.boxglue_calls.specs.RunStatus.{replies_status}
use Rattle.boxglue_calls.specs.Rows.{reply_rows}
use Rattle.boxglue_calls.proofs.jobs.replied.reply_to_each.Given as goal

abbrev pub invariant-loop-at : goal.invariant-loop-at
invariant-loop-at g l = record {
  ran : (replies : List Reply) × RunsTo l.initial.job (commands_of (take l.at l.lines)) replies l.job × (length replies ≡ length (take l.at l.lines))
      × (l.rows ≡ reply_rows (line_numbers (take l.at l.lines)) replies ++ drop l.at l.initial.rows) × (l.status ≡ replies_status replies);
  idle : l.initial.job.state.over ≡ true → l.job ≡ l.initial.job;
  goes_on : GoesOn (writing_of l.initial.job) (writing_of l.job);
}
