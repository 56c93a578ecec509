-- Two runs are one.
use Rattle.std.proofs.Common.{◌++◌, List, sym, subst}
use Rattle.job_machine.specs.declared.command.Command.{Command}
use Rattle.job_core.specs.Jobs.{RunsTo}
use Rattle.job_core.proofs.WholeRuns.{runs_joined}
use Rattle.boxglue_program.specs.Runs.{commands_of}
use Rattle.boxglue_calls.proofs.PieceLaws.{commands_joined, answers_joined, rows_joined}
use Rattle.boxglue_calls.proofs.jobs.laws.pieces_are_one_run.Goals as goal

pub returns : goal.returns
returns c = record {
  run = λ old middle new script more first second.
      subst (λ (commands : List Command). RunsTo old.job commands (first.replies ++ second.replies) new.job) (sym (commands_joined first.lines second.lines))
      (runs_joined old.job middle.job new.job (commands_of first.lines) (commands_of second.lines) first.replies second.replies first.ran second.ran);
  answers = λ old middle new script more first second. answers_joined old.lines middle.lines first.lines second.lines first.replies second.replies first.each;
  rows = λ old middle new script more first second. rows_joined old.lines middle.lines first.lines second.lines first.replies second.replies first.each;
}
