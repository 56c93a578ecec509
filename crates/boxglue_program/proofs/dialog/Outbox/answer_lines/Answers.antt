-- One more line was run and answered.
use Rattle.std.proofs.Common.{◌<◌, ◌++◌, [], length, arith}
use Rattle.std.proofs.lemmas.Bool.Decides.{nat_tests}
use Rattle.boxglue_script.proofs.LineContentLaws.{on_any_err}
use Rattle.boxglue_program.specs.Private.Dialogs.{outbox_of}
use Rattle.boxglue_program.proofs.DialogLaws.{up_to_start, up_to_more, up_to_end, stops_after, sends_none, sends_line, sends_no_line}
use Rattle.boxglue_program.proofs.dialog.Outbox.answer_lines.Goals as goal

pub loop-rest-init : goal.loop-rest-init
loop-rest-init g c = record {
  done = (
    [],
    up_to_start c.args.text.now c.args.dialog.now,
    sends_none (outbox_of c.args.self.now.waiting.items c.args.self.now.reads) (g.W.Write.contents c.args.writer.now),
  );
  counted = omega arith;
}

pub returns-in_err-answer-clause-stopped : goal.returns-in_err-answer-clause-stopped
returns-in_err-answer-clause-stopped g c =
    let old = c.args.dialog.now in
    let now = c.loop-rest.dialog in
    let start = outbox_of c.args.self.now.waiting.items c.args.self.now.reads in
    let held = outbox_of c.loop-rest.self.waiting.items c.loop-rest.self.reads in
    let space = outbox_of c.make_space.new.self.waiting.items c.make_space.new.self.reads in
    let before = c.loop-rest.invariant.done in
    on_any_err c.from_residual.result (
      before.0,
      stops_after c.args.text.now c.loop-rest.rest.now before.0 old now c.answer.new.self before.1 c.in_err-answer.ensures.unchanged,
      sends_no_line start held space (g.W.Write.contents c.args.writer.now) (g.W.Write.contents c.loop-rest.writer)
          (g.W.Write.contents c.make_space.new.writer) before.0 c.answer.new.answers.items before.2
          c.make_space.ensures.sent c.in_err-answer.ensures.cut,
    )

pub returns-clause-ok : goal.returns-clause-ok
returns-clause-ok g c =
    let old = c.args.dialog.now in
    let now = c.loop-rest.dialog in
    let before = c.loop-rest.invariant.done in
    (before.0, up_to_end c.args.text.now c.loop-rest.rest.now before.0 old now (grind (arith, nat_tests)) before.1, before.2)

pub loop-rest-preserved : goal.loop-rest-preserved
loop-rest-preserved g c =
    let old = c.args.dialog.now in
    let now = c.loop-rest.dialog in
    let new = c.answer.new.self in
    let start = outbox_of c.args.self.now.waiting.items c.args.self.now.reads in
    let held = outbox_of c.loop-rest.self.waiting.items c.loop-rest.self.reads in
    let space = outbox_of c.make_space.new.self.waiting.items c.make_space.new.self.reads in
    let before = c.loop-rest.invariant.done in
    let line = c.in_ok-answer.ensures.ok in
    let some : 0 < length c.loop-rest.rest.now = grind (arith, nat_tests) in
    record {
      done = (
        before.0 ++ line.0,
        up_to_more c.args.text.now c.loop-rest.rest.now c.first_line.result.0.now c.first_line.result.1.now before.0 line.0 old now new some before.1 c.first_line.ensures.split line.2,
        sends_line start held space (g.W.Write.contents c.args.writer.now) (g.W.Write.contents c.loop-rest.writer)
            (g.W.Write.contents c.make_space.new.writer) before.0 line.0 c.answer.new.answers.items before.2
            c.make_space.ensures.sent line.1,
      );
      counted = omega (arith, c.loop-rest.invariant.counted, c.first_line.ensures.shorter, c.in_ok-answer.ensures.counted);
    }
