-- All that waits was sent, or nothing.
use Rattle.boxglue_program.specs.Private.Dialogs.{outbox_of}
use Rattle.boxglue_program.proofs.DialogLaws.{sends_none, sends_all}
use Rattle.boxglue_program.proofs.dialog.Outbox.make_space.Goals as goal

pub returns-then-len : goal.returns-then-len
returns-then-len g c = record { sent = sends_none (outbox_of c.args.self.now.waiting.items c.args.self.now.reads) (g.W.Write.contents c.args.writer.now) }

pub returns : goal.returns
returns g c = record {
  sent = sends_all c.args.self.now.waiting.items c.send.new.self.waiting.items c.args.self.now.reads c.send.new.self.reads (g.W.Write.contents c.args.writer.now) (g.W.Write.contents c.send.new.writer)
      c.send.ensures.empty c.send.ensures.sent;
}
