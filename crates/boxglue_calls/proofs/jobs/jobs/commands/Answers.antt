-- A piece is never answered with the status of a null handle.
use Rattle.boxglue_calls.proofs.KeptLaws.{commands_is_not_8, there_was_a_job}
use Rattle.boxglue_calls.proofs.jobs.jobs.commands.Goals as goal

pub returns-clause-no_job : goal.returns-clause-no_job
returns-clause-no_job c =
    let run = c.commands-status in
    there_was_a_job c.args.job.now.value c.in-Some.kept.value run.result c.in-Some.ensures.value_returned
    (commands_is_not_8 c.args.script.now c.deref_mut.result.now run.new.self run.result run.ensures)
