-- Nothing for a client that does not read, and the text for one that does.
use Rattle.boxglue_program.proofs.SessionLaws.{kept_as}
use Rattle.boxglue_program.proofs.DialogLaws.{sent_by_result}
use Rattle.boxglue_program.proofs.dialog.send_answers.Goals as goal

pub returns-then-not-reads : goal.returns-then-not-reads
returns-then-not-reads g c = rw c.if-not-reads.true (kept_as (g.W.Write.contents c.args.writer.now))

pub returns : goal.returns
returns g c =
    rw c.if-not-reads.false
    (sent_by_result c.write_text.result c.is_ok.result (g.W.Write.contents c.args.writer.now) (g.W.Write.contents c.write_text.new.writer) c.args.text.now c.is_ok.ensures.value c.write_text.ensures.all c.write_text.ensures.front)
