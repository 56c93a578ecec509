-- The lines before the rest were run, and their answers were sent or wait.
use Rattle.std.proofs.Common.{ℕ, List, ◌≤◌, ◌+◌, length}
use Rattle.boxglue_program.specs.Private.Dialogs.{outbox_of, Sends}
use Rattle.boxglue_program.proofs.DialogLaws.{RunsUpTo}
use Rattle.boxglue_program.proofs.dialog.Outbox.answer_lines.Given as goal

abbrev pub invariant-loop-rest : goal.invariant-loop-rest
invariant-loop-rest g l = record {
  done : (answers : List ℕ)
      × RunsUpTo l.text l.rest l.initial.dialog answers l.dialog
      × Sends (outbox_of l.initial.self.waiting.items l.initial.self.reads) (outbox_of l.self.waiting.items l.self.reads) (g.W.Write.contents l.initial.writer) (g.W.Write.contents l.writer) answers;
  counted : l.dialog.lines + length l.rest ≤ l.initial.dialog.lines + length l.text;
}

abbrev pub decreases-loop-rest : goal.decreases-loop-rest
decreases-loop-rest g l = length l.rest
