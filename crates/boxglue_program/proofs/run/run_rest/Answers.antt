-- The answers, and what the inner device then has.
use Rattle.boxglue_program.proofs.RunLaws.{answered_made, answered_over_rest, rest_view, resumed, unanswered_made, unanswered_over_rest}
use Rattle.boxglue_program.proofs.run.run_rest.Goals as goal

pub returns-in-Ok : goal.returns-in-Ok
returns-in-Ok g c =
    let d = g.D.Device in
    let text = c.args.text.now in
    let files = c.args.files.now in
    let answers = c.in-Ok.ensures.sent in
    let began = answered_made text files (rest_view d.bytes_written d.failed c.new.result) (rest_view d.bytes_written d.failed c.in-Ok.rest) answers.0 c.in-Ok.accepted answers.1 in
    record {
      whole = λ had. (
        answers.0,
        resumed d.bytes_written d.failed d.past c.args.device c.args.sent.items c.new.result c.in-Ok.rest c.into_device.result c.new.ensures.made began
            c.into_device.ensures.device c.into_device.ensures.passes_on text files answers.0 c.in-Ok.accepted answers.1 had c.into_device.ensures.whole,
        answers.2,
      );
      answers = (
        answers.0,
        answered_over_rest d.bytes_written d.failed d.past c.args.device c.args.sent.items c.new.result c.in-Ok.rest c.into_device.result c.new.ensures.made began
            c.into_device.ensures.device c.into_device.ensures.passes_on text files answers.0 c.in-Ok.accepted answers.1 c.into_device.ensures.rest_sent,
        answers.2,
      );
      left = tt;
    }

pub returns-in-Err-Memory-clause-left : goal.returns-in-Err-Memory-clause-left
returns-in-Err-Memory-clause-left g c =
    let d = g.D.Device in
    let left = rw c.in-Err-Memory.field-0-is at c.in-Err-Memory.ensures.left_sent in
    let began = unanswered_made c.args.text.now c.args.files.now (rest_view d.bytes_written d.failed c.new.result) (rest_view d.bytes_written d.failed c.in-Err-Memory.rest) left.0 in (
      unanswered_over_rest d.bytes_written d.failed d.past c.args.device c.args.sent.items c.new.result c.in-Err-Memory.rest c.into_device-in-Err-Memory.result c.new.ensures.made began
          c.into_device-in-Err-Memory.ensures.device c.into_device-in-Err-Memory.ensures.passes_on c.args.text.now c.args.files.now left.0
          c.into_device-in-Err-Memory.ensures.rest_sent,
      left.1,
    )

pub returns-in-Err-Answers-clause-left : goal.returns-in-Err-Answers-clause-left
returns-in-Err-Answers-clause-left g c =
    let d = g.D.Device in
    let left = rw c.in-Err-Answers.field-0-is at c.in-Err-Answers.ensures.left_sent in
    let began = answered_made c.args.text.now c.args.files.now (rest_view d.bytes_written d.failed c.new.result) (rest_view d.bytes_written d.failed c.in-Err-Answers.rest) left.0 left.1 left.2 in (
      left.0,
      left.1,
      answered_over_rest d.bytes_written d.failed d.past c.args.device c.args.sent.items c.new.result c.in-Err-Answers.rest c.into_device-in-Err-Answers.result c.new.ensures.made began
          c.into_device-in-Err-Answers.ensures.device c.into_device-in-Err-Answers.ensures.passes_on c.args.text.now c.args.files.now left.0 left.1 left.2
          c.into_device-in-Err-Answers.ensures.rest_sent,
      left.3,
    )
