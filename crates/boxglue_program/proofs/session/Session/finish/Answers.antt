-- The last line was run, and the job was finished.
use Rattle.std.proofs.Common.{ℕ, List, subst}
use Rattle.std.specs.Str.Lines.{lines}
use Rattle.boxglue_program.specs.Private.Dialogs.{session_of}
use Rattle.boxglue_program.specs.Sessions.{AnswersLines, StopsIn}
use Rattle.boxglue_program.proofs.SessionCalls.{session_finished, session_unfinished}
use Rattle.boxglue_program.proofs.session.Session.finish.Goals as goal

pub returns-in-Ok-clause-ended : goal.returns-in-Ok-clause-ended
returns-in-Ok-clause-ended g c =
    let inside = c.self.inside in
    let was = session_of inside.dialog inside.outbox.reads inside.partial_line.items inside.left in
    let ends = c.in-Ok.ensures.ended in
    let ran : AnswersLines was.dialog (lines was.partial_line) ends.0 ends.1 = subst (λ (text : List ℕ). AnswersLines was.dialog (lines text) ends.0 ends.1) c.deref.ensures.value ends.3 in
    session_finished c.args.self was c.close.result.outcome c.in-Ok.accepted c.answer_last.new.self.reads c.close.result.written (g.D.Device.failed c.close.result.device) c.answer_last.new.dialog.job.failed
    (g.D.Device.bytes_written c.close.result.device) c.answer_last.new.dialog.job.bytes_written (g.W.Write.contents c.args.writer.now) (g.W.Write.contents c.answer_last.new.writer) ends.0 ends.1 ends.2
    c.self.view_is c.close.ensures.outcome c.close.ensures.device.failed c.close.ensures.device.bytes_written c.close.ensures.written ran ends.4 ends.5 ends.6

pub returns-clause-memory : goal.returns-clause-memory
returns-clause-memory g c =
    let inside = c.self.inside in
    let was = session_of inside.dialog inside.outbox.reads inside.partial_line.items inside.left in
    let ended = c.answer_last.new.dialog in
    let lacks = c.in-Err.ensures.stopped in
    let stops : StopsIn was.partial_line was.dialog lacks.0 ended = subst (λ (text : List ℕ). StopsIn text was.dialog lacks.0 ended) c.deref.ensures.value lacks.1 in
    session_unfinished c.args.self was ended c.close-in-Err.result.outcome c.answer_last.new.self.reads c.close-in-Err.result.written (g.D.Device.failed c.close-in-Err.result.device)
    (g.D.Device.bytes_written c.close-in-Err.result.device) (g.W.Write.contents c.args.writer.now) (g.W.Write.contents c.answer_last.new.writer) lacks.0
    c.self.view_is c.close-in-Err.ensures.outcome c.close-in-Err.ensures.device.failed c.close-in-Err.ensures.device.bytes_written c.close-in-Err.ensures.written stops lacks.2
