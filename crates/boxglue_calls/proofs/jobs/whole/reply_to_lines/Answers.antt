-- The rows of the lines, and that of the end.
use Rattle.std.proofs.Common.{◌≡◌, ◌++◌, ◌∷◌, [], ℕ, List, length, refl, sym, ap, ◌∙◌}
use Rattle.std.proofs.lemmas.List.{with_items_is}
use Rattle.std.specs.Prelude.{max}
use Rattle.dvi_device.specs.Held.{MemoryState}
use Rattle.job_core.proofs.WholeRuns.{was_run, was_sent}
use Rattle.boxglue_program.proofs.RunLaws.{same_run}
use Rattle.boxglue_program.specs.Runs.{commands_of, line_numbers}
use Rattle.boxglue_calls.specs.RunStatus.{replies_status}
use Rattle.boxglue_calls.specs.Rows.{reply_rows}
use Rattle.boxglue_calls.specs.declared.jobs.rows.ReplyRow.{ReplyRow}
use Rattle.boxglue_calls.proofs.RowLaws.{filled, length_rows}
use Rattle.boxglue_calls.proofs.jobs.whole.reply_to_lines.Goals as goal

pub returns : goal.returns
returns c =
    let lines = c.args.lines.now in
    let each = c.reply_to_each-status in
    let ran = each.ensures.ran in
    let end = c.finish-end in
    let run = was_run c.args.files.now (commands_of lines) ran.0 end.result c.in-Ok.job each.new.job end.new.self c.in-Ok.ensures.ok ran.1
    end.ensures.finished end.ensures.dvi end.ensures.size in
    let sent = was_sent c.args.files.now (commands_of lines) ran.0 end.result c.in-Ok.job each.new.job end.new.self c.in-Ok.ensures.ok ran.1
    end.ensures.finished end.ensures.file end.ensures.end end.ensures.count end.ensures.part in
    let start : 0 ≡ c.in-Ok.job.failed = sym (c.in-Ok.ensures.made.failed ∙ ap (λ (m : MemoryState). m.failures) c.new.ensures) in
    let rows : List ReplyRow = reply_rows (line_numbers lines) ran.0 in
    let space : length c.deref_mut.result.now ≡ length rows = c.deref_mut.ensures.len
    ∙ (c.in_ok-rows.ensures.len ∙ sym (length_rows lines ran.0 ran.2)) in
    let put : each.new.rows ≡ rows = filled c.deref_mut.result.now each.new.rows rows space each.auto.rows ran.3 in
    let kept = with_items_is c.in_ok-rows.rows each.new.rows (each.auto.rows ∙ c.deref_mut.ensures.len) in (
      ran.0,
      end.result,
      same_run c.args.files.now _ _ _ _ _ _ _ _ _ _ _ start refl refl c.into_device.ensures.failed c.into_device.ensures.bytes_written (run, sent),
      ran.2,
      c.in_ok-push.ensures.items ∙ (ap (λ (xs : List ReplyRow). xs ++ c.end_row.result ∷ []) (kept ∙ put) ∙ ap (λ (row : ReplyRow). rows ++ row ∷ []) c.end_row.ensures),
      c.max.ensures ∙ (ap (λ (n : ℕ). max n c.reply_status.result) ran.4 ∙ ap (λ (n : ℕ). max (replies_status ran.0) n) c.reply_status.ensures),
    )
