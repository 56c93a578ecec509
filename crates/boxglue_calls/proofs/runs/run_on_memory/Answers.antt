-- The lines that were run are those of the script.
use Rattle.std.proofs.Common.{refl, ◌∙◌}
use Rattle.boxglue_script.specs.Blocks.{lines_of}
use Rattle.boxglue_calls.specs.Fonts.{files_of}
use Rattle.boxglue_calls.proofs.RunLaws.{if_ok, ran_script}
use Rattle.boxglue_calls.proofs.runs.run_on_memory.Goals as goal

pub returns-in-Ok : goal.returns-in-Ok
returns-in-Ok c =
    if_ok c.run_job.result
    (λ run facts. ran_script c.args.script.now (files_of c.args.fonts.now) c.deref.result.now (lines_of c.in-Ok.lines) (lines_of c.in-Ok.lines) facts.0 facts.1 run.device.failures run.answers.items
    run.device.bytes run.status c.in-Ok.ensures.lines refl (c.deref.ensures.value ∙ c.in_ok-files.ensures.copied) facts.2 facts.3 facts.4)
    c.run_job.ensures
