-- The last line was sent.
use Rattle.std.proofs.Common.{[], ◌∙◌, sym}
use Rattle.std.proofs.lemmas.List.{append-nil}
use Rattle.std.proofs.lemmas.Result.{IfOk-weaker}
use Rattle.boxglue_program.specs.Texts.{end_line}
use Rattle.boxglue_program.proofs.DialogLaws.{sent_added, both_err}
use Rattle.boxglue_program.proofs.dialog.Outbox.finish.Goals as goal

pub returns-clause-ended : goal.returns-clause-ended
returns-clause-ended g c =
    IfOk-weaker c.finish-ended.result _ _
    (λ accepted h. (
      h.0,
      h.1,
      sent_added c.args.self.now.reads c.send.new.self.reads (g.W.Write.contents c.args.writer.now) (g.W.Write.contents c.send.new.writer) c.args.self.now.waiting.items c.finish-ended.new.answers.items (end_line h.0)
          c.requires.empty h.2 c.send.ensures.sent,
      h.3,
    ))
    c.finish-ended.ensures.ended

pub returns-clause-none : goal.returns-clause-none
returns-clause-none g c =
    both_err c.finish-ended.result
    (λ same cut. (
      same,
      sent_added c.args.self.now.reads c.send.new.self.reads (g.W.Write.contents c.args.writer.now) (g.W.Write.contents c.send.new.writer) c.args.self.now.waiting.items c.finish-ended.new.answers.items []
          c.requires.empty (cut ∙ sym (append-nil c.args.self.now.waiting.items)) c.send.ensures.sent,
    ))
    c.finish-ended.ensures.none c.finish-ended.ensures.cut
