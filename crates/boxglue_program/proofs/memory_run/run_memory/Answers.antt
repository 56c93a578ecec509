-- The answers, and then the bytes of the device.
use Rattle.std.proofs.Common.{sym, ◌∙◌, ap, ◌++◌, List, ℕ}
use Rattle.boxglue_program.specs.Reports.{any_bytes, written_bytes}
use Rattle.boxglue_program.specs.Texts.{hexadecimal_text}
use Rattle.boxglue_program.proofs.RunLaws.{on_ok, answered_in_memory, lacking_in_memory, unanswered_in_memory}
use Rattle.boxglue_program.proofs.SessionLaws.{kept_as}
use Rattle.boxglue_program.proofs.memory_run.run_memory.Goals as goal

pub returns-in-Ok-write_text-clause-answers : goal.returns-in-Ok-write_text-clause-answers
returns-in-Ok-write_text-clause-answers g c =
    let done = c.in-Ok.done in
    let pushed = on_ok c.push_hexadecimal.result (sym c.is_err.ensures.value ∙ c.if-is_err.false) c.push_hexadecimal.ensures in
    let whole = c.deref.ensures.value ∙ (pushed ∙ ap (λ (bytes : List ℕ). done.text.items ++ hexadecimal_text bytes) c.bytes.ensures) in (
      c.deref.result.now,
      (done.device, answered_in_memory any_bytes c.args.text.now c.args.files.now c.new.result done.device done.text.items c.deref.result.now done.accepted c.new.ensures c.in-Ok.ensures.answers whole),
      c.in-Ok-write_text.ensures.all,
    )

pub returns-in-Err-clause-left : goal.returns-in-Err-clause-left
returns-in-Err-clause-left g c = (unanswered_in_memory any_bytes c.args.text.now c.args.files.now c.new.result c.in-Err.memory c.new.ensures c.in-Err.ensures.left, kept_as _)

pub returns-then-is_err-clause-left : goal.returns-then-is_err-clause-left
returns-then-is_err-clause-left g c =
    let done = c.in-Ok.done in
    (lacking_in_memory any_bytes c.args.text.now c.args.files.now c.new.result done.device done.text.items done.accepted c.new.ensures c.in-Ok.ensures.answers, kept_as _)

pub returns-clause-left : goal.returns-clause-left
returns-clause-left g c =
    let done = c.in-Ok.done in
    let pushed = on_ok c.push_hexadecimal.result (sym c.is_err.ensures.value ∙ c.if-is_err.false) c.push_hexadecimal.ensures in
    let whole = c.deref.ensures.value ∙ (pushed ∙ ap (λ (bytes : List ℕ). done.text.items ++ hexadecimal_text bytes) c.bytes.ensures) in (
      c.deref.result.now,
      done.accepted,
      answered_in_memory any_bytes c.args.text.now c.args.files.now c.new.result done.device done.text.items c.deref.result.now done.accepted c.new.ensures c.in-Ok.ensures.answers whole,
      c.in-Err-write_text.ensures.front,
    )

pub returns-in-Ok-write_text-clause-sent : goal.returns-in-Ok-write_text-clause-sent
returns-in-Ok-write_text-clause-sent g c =
    let done = c.in-Ok.done in
    let pushed = on_ok c.push_hexadecimal.result (sym c.is_err.ensures.value ∙ c.if-is_err.false) c.push_hexadecimal.ensures in
    let whole = c.deref.ensures.value ∙ (pushed ∙ ap (λ (bytes : List ℕ). done.text.items ++ hexadecimal_text bytes) c.bytes.ensures) in (
      c.deref.result.now,
      (done.device, answered_in_memory written_bytes c.args.text.now c.args.files.now c.new.result done.device done.text.items c.deref.result.now done.accepted c.new.ensures c.in-Ok.ensures.sent whole),
      c.in-Ok-write_text.ensures.all,
    )

pub returns-in-Err-clause-left_sent : goal.returns-in-Err-clause-left_sent
returns-in-Err-clause-left_sent g c = (unanswered_in_memory written_bytes c.args.text.now c.args.files.now c.new.result c.in-Err.memory c.new.ensures c.in-Err.ensures.left_sent, kept_as _)

pub returns-then-is_err-clause-left_sent : goal.returns-then-is_err-clause-left_sent
returns-then-is_err-clause-left_sent g c =
    let done = c.in-Ok.done in
    (lacking_in_memory written_bytes c.args.text.now c.args.files.now c.new.result done.device done.text.items done.accepted c.new.ensures c.in-Ok.ensures.sent, kept_as _)

pub returns-clause-left_sent : goal.returns-clause-left_sent
returns-clause-left_sent g c =
    let done = c.in-Ok.done in
    let pushed = on_ok c.push_hexadecimal.result (sym c.is_err.ensures.value ∙ c.if-is_err.false) c.push_hexadecimal.ensures in
    let whole = c.deref.ensures.value ∙ (pushed ∙ ap (λ (bytes : List ℕ). done.text.items ++ hexadecimal_text bytes) c.bytes.ensures) in (
      c.deref.result.now,
      done.accepted,
      answered_in_memory written_bytes c.args.text.now c.args.files.now c.new.result done.device done.text.items c.deref.result.now done.accepted c.new.ensures c.in-Ok.ensures.sent whole,
      c.in-Err-write_text.ensures.front,
    )
