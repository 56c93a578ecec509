-- The lines that were run are those of the script.
use Rattle.std.proofs.Common.{◌∙◌}
use Rattle.boxglue_calls.specs.Fonts.{files_of}
use Rattle.boxglue_calls.proofs.RunLaws.{if_ok}
use Rattle.boxglue_calls.proofs.WholeLaws.{replied_script}
use Rattle.boxglue_calls.proofs.jobs.whole.reply_to_script.Goals as goal

pub returns-in-Ok : goal.returns-in-Ok
returns-in-Ok c =
    if_ok c.reply_to_lines.result
    (λ ran facts. replied_script c.args.script.now (files_of c.args.fonts.now) c.deref-in-Ok.result.now c.in-Ok.lines.items c.deref.result.now facts.0 facts.1 ran.device.failures ran.rows.items
    ran.device.bytes ran.status c.in-Ok.ensures.lines c.deref.ensures.value (c.deref-in-Ok.ensures.value ∙ c.in_ok-files.ensures.copied) facts.2 facts.3 facts.4 facts.5)
    c.reply_to_lines.ensures
