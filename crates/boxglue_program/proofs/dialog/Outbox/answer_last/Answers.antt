-- The lines, and then the end.
use Rattle.std.proofs.lemmas.Result.{IfOk-weaker, on_err_weaker}
use Rattle.boxglue_program.specs.Texts.{end_line}
use Rattle.boxglue_program.proofs.SessionLaws.{sent_both}
use Rattle.boxglue_program.proofs.DialogLaws.{stops_at_end, sent_no_more}
use Rattle.boxglue_program.proofs.dialog.Outbox.answer_last.Goals as goal

pub returns-clause-ended : goal.returns-clause-ended
returns-clause-ended g c =
    let lines = c.in_ok-answer.ensures.ok in
    IfOk-weaker c.finish.result _ _
    (λ accepted h. (
      lines.0,
      c.answer.new.dialog,
      h.0,
      lines.1,
      h.1,
      sent_both c.args.self.now.reads c.answer.new.self.reads c.finish.new.self.reads (g.W.Write.contents c.args.writer.now) (g.W.Write.contents c.answer.new.writer) (g.W.Write.contents c.finish.new.writer) lines.0 (end_line h.0)
          lines.2 h.2,
      h.3,
      c.finish.ensures.goes_on,
    ))
    c.finish.ensures.ended

pub returns-clause-stopped : goal.returns-clause-stopped
returns-clause-stopped g c =
    let lines = c.in_ok-answer.ensures.ok in
    let old = c.args.dialog.now in
    let now = c.answer.new.dialog in
    on_err_weaker c.finish.result
    (λ h. (
      lines.0,
      stops_at_end c.args.text.now lines.0 old now c.finish.new.dialog lines.1 h.0,
      sent_no_more c.args.self.now.reads c.answer.new.self.reads c.finish.new.self.reads (g.W.Write.contents c.args.writer.now) (g.W.Write.contents c.answer.new.writer) (g.W.Write.contents c.finish.new.writer) lines.0 lines.2 h.1,
    ))
    c.finish.ensures.none
