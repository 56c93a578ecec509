-- What is known of the device that was returned.
use Rattle.std.proofs.Common.{◌≡◌, ap, ◌∙◌}
use Rattle.boxglue_program.specs.Reports.{written_bytes}
use Rattle.boxglue_program.proofs.RunLaws.{answered_alone, answered_made, unanswered_alone, unanswered_made}
use Rattle.boxglue_lib.proofs.EndLemmas.{answered_to_file, back_alike, failed_since, left_to_file, placed_since, unopened_silent}
use Rattle.boxglue_lib.proofs.typesetting.typeset_file.Goals as goal

pub returns-in-Ok-clause-task_ended : goal.returns-in-Ok-clause-task_ended
returns-in-Ok-clause-task_ended g c =
    let done = rw (c.deref.ensures.value, c.deref-2.ensures.value) at c.in-Ok.ensures.sent in
    rw c.end_with.ensures.end (
      done.0,
      answered_to_file c.args.inputs.now.bytes.items c.args.inputs.now.files.items c.new-device.result.failures c.in-Ok.device.is_created c.in-Ok.device.failures
          (g.H.FileHost.written c.in-Ok.device.host) (c.in-Ok.device ≡ c.new-device.result) (c.end_with.result.host ≡ c.args.host) done.0 c.in-Ok.accepted
          (record { is_created = c.end_with.result.is_created; done = c.end_with.result.written; written = g.H.FileHost.written c.end_with.result.host }) c.new-device.ensures.fine c.end_with.ensures.created c.end_with.ensures.written (cc) (λ same. cc) (λ same. cc) (λ same. cc) c.end_with.ensures.used (answered_alone written_bytes _ _ _ _ done.0 c.in-Ok.accepted done.1),
      done.2,
    )

pub returns-in-Err-Answers-clause-task_ended : goal.returns-in-Err-Answers-clause-task_ended
returns-in-Err-Answers-clause-task_ended g c =
    let left = rw c.in-Err-Answers.field-0-is at c.in-Err-Answers.ensures.left_sent in
    let done = rw (c.deref.ensures.value, c.deref-2.ensures.value) at left in
    rw c.end_with-in-Err-Answers.ensures.end (
      done.0,
      done.1,
      answered_to_file c.args.inputs.now.bytes.items c.args.inputs.now.files.items c.new-device.result.failures c.in-Err-Answers.device.is_created
          c.in-Err-Answers.device.failures (g.H.FileHost.written c.in-Err-Answers.device.host) (c.in-Err-Answers.device ≡ c.new-device.result) (c.end_with-in-Err-Answers.result.host ≡ c.args.host) done.0 done.1
          (record { is_created = c.end_with-in-Err-Answers.result.is_created; done = c.end_with-in-Err-Answers.result.written; written = g.H.FileHost.written c.end_with-in-Err-Answers.result.host })
          c.new-device.ensures.fine c.end_with-in-Err-Answers.ensures.created c.end_with-in-Err-Answers.ensures.written (cc) (λ same. cc) (λ same. cc) (λ same. cc) c.end_with-in-Err-Answers.ensures.used (answered_alone written_bytes _ _ _ _ done.0 done.1 done.2),
      done.3,
    )

pub returns-in-Err-Memory-clause-left : goal.returns-in-Err-Memory-clause-left
returns-in-Err-Memory-clause-left g c =
    let left = rw c.in-Err-Memory.field-0-is at c.in-Err-Memory.ensures.left_sent in
    let lacks = rw (c.deref.ensures.value, c.deref-2.ensures.value) at left in
    λ _. left_to_file c.args.inputs.now.bytes.items c.args.inputs.now.files.items c.new-device.result.failures c.in-Err-Memory.device.is_created
    c.in-Err-Memory.device.failures (g.H.FileHost.written c.in-Err-Memory.device.host)
    (record { is_created = c.end_with-in-Err-Memory.result.is_created; done = c.end_with-in-Err-Memory.result.written; written = g.H.FileHost.written c.end_with-in-Err-Memory.result.host }) c.new-device.ensures.fine
    c.end_with-in-Err-Memory.ensures.created c.end_with-in-Err-Memory.ensures.written (cc) c.end_with-in-Err-Memory.ensures.used (unanswered_alone written_bytes _ _ _ _ (unopened_silent c.new-device.result.is_created (g.H.FileHost.written c.new-device.result.host) c.new-device.ensures.closed) lacks.0)

pub returns-in-Ok-clause-blamed : goal.returns-in-Ok-clause-blamed
returns-in-Ok-clause-blamed g c =
    let began = answered_made _ _ _ _ c.in-Ok.ensures.sent.0 c.in-Ok.accepted c.in-Ok.ensures.sent.1 in
    let alike = back_alike g.row.H.coded g.H.FileHost.written g.H.FileHost.failures c.in-Ok.device.path c.new-device.result.path c.args.out c.in-Ok.device.start.seen c.new-device.result.start.seen c.args.host
    began c.new-device.ensures.path c.new-device.ensures.start in
    failed_since (g.H.FileHost.failures c.args.host) (g.H.FileHost.failures c.end_with.result.host) (g.H.FileHost.failures c.in-Ok.device.start.seen) c.in-Ok.device.failures
    c.end_with.result.written (ap g.H.FileHost.failures alike.1) c.end_with.ensures.counted c.end_with.ensures.written

pub returns-in-Ok-clause-placed : goal.returns-in-Ok-clause-placed
returns-in-Ok-clause-placed g c =
    let began = answered_made _ _ _ _ c.in-Ok.ensures.sent.0 c.in-Ok.accepted c.in-Ok.ensures.sent.1 in
    let alike = back_alike g.row.H.coded g.H.FileHost.written g.H.FileHost.failures c.in-Ok.device.path c.new-device.result.path c.args.out c.in-Ok.device.start.seen c.new-device.result.start.seen c.args.host
    began c.new-device.ensures.path c.new-device.ensures.start in
    placed_since c.in-Ok.device.path.now c.args.out.now (g.H.FileHost.created c.in-Ok.device.start.seen) (g.H.FileHost.created c.args.host) (g.H.FileHost.created c.end_with.result.host)
    c.end_with.result.is_created alike.0 (ap g.H.FileHost.created alike.1) c.end_with.ensures.placed

pub returns-in-Ok-clause-untouched : goal.returns-in-Ok-clause-untouched
returns-in-Ok-clause-untouched g c =
    let began = answered_made _ _ _ _ c.in-Ok.ensures.sent.0 c.in-Ok.accepted c.in-Ok.ensures.sent.1 in
    let alike = back_alike g.row.H.coded g.H.FileHost.written g.H.FileHost.failures c.in-Ok.device.path c.new-device.result.path c.args.out c.in-Ok.device.start.seen c.new-device.result.start.seen c.args.host
    began c.new-device.ensures.path c.new-device.ensures.start in
    λ closed. c.end_with.ensures.untouched closed ∙ ap g.H.FileHost.written alike.1

pub returns-in-Ok-clause-unchanged : goal.returns-in-Ok-clause-unchanged
returns-in-Ok-clause-unchanged g c =
    let began = answered_made _ _ _ _ c.in-Ok.ensures.sent.0 c.in-Ok.accepted c.in-Ok.ensures.sent.1 in
    let alike = back_alike g.row.H.coded g.H.FileHost.written g.H.FileHost.failures c.in-Ok.device.path c.new-device.result.path c.args.out c.in-Ok.device.start.seen c.new-device.result.start.seen c.args.host
    began c.new-device.ensures.path c.new-device.ensures.start in
    λ closed fine. c.end_with.ensures.unchanged closed fine ∙ alike.1

pub returns-in-Err-Answers-clause-blamed : goal.returns-in-Err-Answers-clause-blamed
returns-in-Err-Answers-clause-blamed g c =
    let left = rw c.in-Err-Answers.field-0-is at c.in-Err-Answers.ensures.left_sent in
    let began = answered_made _ _ _ _ left.0 left.1 left.2 in
    let alike = back_alike g.row.H.coded g.H.FileHost.written g.H.FileHost.failures c.in-Err-Answers.device.path c.new-device.result.path c.args.out c.in-Err-Answers.device.start.seen c.new-device.result.start.seen c.args.host
    began c.new-device.ensures.path c.new-device.ensures.start in
    failed_since (g.H.FileHost.failures c.args.host) (g.H.FileHost.failures c.end_with-in-Err-Answers.result.host) (g.H.FileHost.failures c.in-Err-Answers.device.start.seen) c.in-Err-Answers.device.failures
    c.end_with-in-Err-Answers.result.written (ap g.H.FileHost.failures alike.1) c.end_with-in-Err-Answers.ensures.counted c.end_with-in-Err-Answers.ensures.written

pub returns-in-Err-Answers-clause-placed : goal.returns-in-Err-Answers-clause-placed
returns-in-Err-Answers-clause-placed g c =
    let left = rw c.in-Err-Answers.field-0-is at c.in-Err-Answers.ensures.left_sent in
    let began = answered_made _ _ _ _ left.0 left.1 left.2 in
    let alike = back_alike g.row.H.coded g.H.FileHost.written g.H.FileHost.failures c.in-Err-Answers.device.path c.new-device.result.path c.args.out c.in-Err-Answers.device.start.seen c.new-device.result.start.seen c.args.host
    began c.new-device.ensures.path c.new-device.ensures.start in
    placed_since c.in-Err-Answers.device.path.now c.args.out.now (g.H.FileHost.created c.in-Err-Answers.device.start.seen) (g.H.FileHost.created c.args.host) (g.H.FileHost.created c.end_with-in-Err-Answers.result.host)
    c.end_with-in-Err-Answers.result.is_created alike.0 (ap g.H.FileHost.created alike.1) c.end_with-in-Err-Answers.ensures.placed

pub returns-in-Err-Answers-clause-untouched : goal.returns-in-Err-Answers-clause-untouched
returns-in-Err-Answers-clause-untouched g c =
    let left = rw c.in-Err-Answers.field-0-is at c.in-Err-Answers.ensures.left_sent in
    let began = answered_made _ _ _ _ left.0 left.1 left.2 in
    let alike = back_alike g.row.H.coded g.H.FileHost.written g.H.FileHost.failures c.in-Err-Answers.device.path c.new-device.result.path c.args.out c.in-Err-Answers.device.start.seen c.new-device.result.start.seen c.args.host
    began c.new-device.ensures.path c.new-device.ensures.start in
    λ closed. c.end_with-in-Err-Answers.ensures.untouched closed ∙ ap g.H.FileHost.written alike.1

pub returns-in-Err-Answers-clause-unchanged : goal.returns-in-Err-Answers-clause-unchanged
returns-in-Err-Answers-clause-unchanged g c =
    let left = rw c.in-Err-Answers.field-0-is at c.in-Err-Answers.ensures.left_sent in
    let began = answered_made _ _ _ _ left.0 left.1 left.2 in
    let alike = back_alike g.row.H.coded g.H.FileHost.written g.H.FileHost.failures c.in-Err-Answers.device.path c.new-device.result.path c.args.out c.in-Err-Answers.device.start.seen c.new-device.result.start.seen c.args.host
    began c.new-device.ensures.path c.new-device.ensures.start in
    λ closed fine. c.end_with-in-Err-Answers.ensures.unchanged closed fine ∙ alike.1

pub returns-in-Err-Memory-clause-blamed : goal.returns-in-Err-Memory-clause-blamed
returns-in-Err-Memory-clause-blamed g c =
    let left = rw c.in-Err-Memory.field-0-is at c.in-Err-Memory.ensures.left_sent in
    let began = unanswered_made _ _ _ _ left.0 in
    let alike = back_alike g.row.H.coded g.H.FileHost.written g.H.FileHost.failures c.in-Err-Memory.device.path c.new-device.result.path c.args.out c.in-Err-Memory.device.start.seen c.new-device.result.start.seen c.args.host
    began c.new-device.ensures.path c.new-device.ensures.start in
    failed_since (g.H.FileHost.failures c.args.host) (g.H.FileHost.failures c.end_with-in-Err-Memory.result.host) (g.H.FileHost.failures c.in-Err-Memory.device.start.seen) c.in-Err-Memory.device.failures
    c.end_with-in-Err-Memory.result.written (ap g.H.FileHost.failures alike.1) c.end_with-in-Err-Memory.ensures.counted c.end_with-in-Err-Memory.ensures.written

pub returns-in-Err-Memory-clause-placed : goal.returns-in-Err-Memory-clause-placed
returns-in-Err-Memory-clause-placed g c =
    let left = rw c.in-Err-Memory.field-0-is at c.in-Err-Memory.ensures.left_sent in
    let began = unanswered_made _ _ _ _ left.0 in
    let alike = back_alike g.row.H.coded g.H.FileHost.written g.H.FileHost.failures c.in-Err-Memory.device.path c.new-device.result.path c.args.out c.in-Err-Memory.device.start.seen c.new-device.result.start.seen c.args.host
    began c.new-device.ensures.path c.new-device.ensures.start in
    placed_since c.in-Err-Memory.device.path.now c.args.out.now (g.H.FileHost.created c.in-Err-Memory.device.start.seen) (g.H.FileHost.created c.args.host) (g.H.FileHost.created c.end_with-in-Err-Memory.result.host)
    c.end_with-in-Err-Memory.result.is_created alike.0 (ap g.H.FileHost.created alike.1) c.end_with-in-Err-Memory.ensures.placed

pub returns-in-Err-Memory-clause-untouched : goal.returns-in-Err-Memory-clause-untouched
returns-in-Err-Memory-clause-untouched g c =
    let left = rw c.in-Err-Memory.field-0-is at c.in-Err-Memory.ensures.left_sent in
    let began = unanswered_made _ _ _ _ left.0 in
    let alike = back_alike g.row.H.coded g.H.FileHost.written g.H.FileHost.failures c.in-Err-Memory.device.path c.new-device.result.path c.args.out c.in-Err-Memory.device.start.seen c.new-device.result.start.seen c.args.host
    began c.new-device.ensures.path c.new-device.ensures.start in
    λ closed. c.end_with-in-Err-Memory.ensures.untouched closed ∙ ap g.H.FileHost.written alike.1

pub returns-in-Err-Memory-clause-unchanged : goal.returns-in-Err-Memory-clause-unchanged
returns-in-Err-Memory-clause-unchanged g c =
    let left = rw c.in-Err-Memory.field-0-is at c.in-Err-Memory.ensures.left_sent in
    let began = unanswered_made _ _ _ _ left.0 in
    let alike = back_alike g.row.H.coded g.H.FileHost.written g.H.FileHost.failures c.in-Err-Memory.device.path c.new-device.result.path c.args.out c.in-Err-Memory.device.start.seen c.new-device.result.start.seen c.args.host
    began c.new-device.ensures.path c.new-device.ensures.start in
    λ closed fine. c.end_with-in-Err-Memory.ensures.unchanged closed fine ∙ alike.1
