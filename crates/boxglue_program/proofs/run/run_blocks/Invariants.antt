-- The blocks so far were run.
use Rattle.std.proofs.Common.{◌≡◌}
use Rattle.dvi_write.specs.Writing.{GoesOn}
use Rattle.job_core.specs.Jobs.{writing_of}
use Rattle.boxglue_script.specs.Blocks.{lines_in}
use Rattle.boxglue_program.proofs.BlockRuns.{WereRun}
use Rattle.boxglue_program.proofs.run.run_blocks.Given as goal

abbrev pub invariant-loop-block : goal.invariant-loop-block
invariant-loop-block g l = record {
  ran : WereRun l.initial.job l.job l.initial.answers.items l.answers.items l.run.are_answers_kept l.run.outcome (lines_in l.yielded);
  goes_on : GoesOn (writing_of l.initial.job) (writing_of l.job);
}
