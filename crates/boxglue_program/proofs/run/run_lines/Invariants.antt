-- The lines so far were run and answered.
use Rattle.std.proofs.Common.{◌≡◌, ◌≤◌, ◌+◌, ◌*◌, ◌++◌, ℕ, true, List, length, take, vec_len, vec_capacity}
use Rattle.job_machine.specs.Reply.{Reply}
use Rattle.dvi_write.specs.Writing.{GoesOn}
use Rattle.job_core.specs.Jobs.{RunsTo, writing_of}
use Rattle.boxglue_program.specs.Outcomes.{replies_outcome}
use Rattle.boxglue_program.specs.Runs.{commands_of, line_numbers}
use Rattle.boxglue_program.specs.Texts.{answer_lines}
use Rattle.boxglue_program.specs.Private.NumberedLines.{HoldsTens}
use Rattle.boxglue_program.proofs.run.run_lines.Given as goal

abbrev pub invariant-loop-line : goal.invariant-loop-line
invariant-loop-line g l = record {
  ran : (replies : List Reply) × RunsTo l.initial.job (commands_of (take l.line-index l.lines)) replies l.job × (length replies ≡ length (take l.line-index l.lines))
      × (l.are_answers_kept ≡ true → l.answers.items ≡ l.initial.answers.items ++ answer_lines (line_numbers (take l.line-index l.lines)) replies) × (l.outcome ≡ replies_outcome replies);
  begun : (more : List ℕ) × (l.answers.items ≡ l.initial.answers.items ++ more);
  short : vec_len l.answers ≤ vec_len l.initial.answers + 512 * l.line-index;
  grown : vec_capacity l.initial.answers ≤ vec_capacity l.answers;
  space : vec_len l.initial.answers + 512 * length l.lines ≤ vec_capacity l.initial.answers → l.are_answers_kept ≡ true;
  idle : l.initial.job.state.over ≡ true → l.job ≡ l.initial.job;
  numbered : HoldsTens l.numbered;
  goes_on : GoesOn (writing_of l.initial.job) (writing_of l.job);
}
