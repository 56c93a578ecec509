-- All answers were sent.
use Rattle.std.proofs.lemmas.Result.{on_ok_weaker, on_err_weaker}
use Rattle.boxglue_program.specs.Private.Dialogs.{outbox_of}
use Rattle.boxglue_program.proofs.DialogLaws.{sent_all}
use Rattle.boxglue_program.proofs.dialog.Outbox.answer.Goals as goal

pub returns-clause-ok : goal.returns-clause-ok
returns-clause-ok g c =
    let before = outbox_of c.args.self.now.waiting.items c.args.self.now.reads in
    let between = outbox_of c.answer_lines-ran.new.self.waiting.items c.answer_lines-ran.new.self.reads in
    on_ok_weaker c.answer_lines-ran.result
    (λ h. (
      h.0,
      h.1,
      sent_all before between c.send.new.self.reads (g.W.Write.contents c.args.writer.now) (g.W.Write.contents c.answer_lines-ran.new.writer) (g.W.Write.contents c.send.new.writer) h.0 c.requires.empty h.2 c.send.ensures.sent,
    ))
    c.answer_lines-ran.ensures.ok

pub returns-clause-stopped : goal.returns-clause-stopped
returns-clause-stopped g c =
    let before = outbox_of c.args.self.now.waiting.items c.args.self.now.reads in
    let between = outbox_of c.answer_lines-ran.new.self.waiting.items c.answer_lines-ran.new.self.reads in
    on_err_weaker c.answer_lines-ran.result
    (λ h. (
      h.0,
      h.1,
      sent_all before between c.send.new.self.reads (g.W.Write.contents c.args.writer.now) (g.W.Write.contents c.answer_lines-ran.new.writer) (g.W.Write.contents c.send.new.writer) h.0 c.requires.empty h.2 c.send.ensures.sent,
    ))
    c.answer_lines-ran.ensures.stopped
