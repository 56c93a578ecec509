-- A piece is never replied to with the status of a null handle.
use Rattle.boxglue_calls.proofs.KeptLaws.{run_is_not_8, there_was_a_job}
use Rattle.boxglue_calls.proofs.jobs.jobs.run.Goals as goal

pub returns-clause-no_job : goal.returns-clause-no_job
returns-clause-no_job c =
    let run = c.run-status in
    there_was_a_job c.args.job.now.value c.in-Some.kept.value run.result c.in-Some.ensures.value_returned
    (run_is_not_8 c.args.script.now (record { rows = c.args.rows.now; count = c.args.count.now }) (record { rows = run.new.rows; count = run.new.count }) c.deref_mut.result.now run.new.self run.result
    run.ensures)

pub returns-clause-rows : goal.returns-clause-rows
returns-clause-rows c h =
    let run = c.run-status in
    absurd (run_is_not_8 c.args.script.now (record { rows = c.args.rows.now; count = c.args.count.now }) (record { rows = run.new.rows; count = run.new.count }) c.deref_mut.result.now run.new.self run.result
    run.ensures h)

pub returns-clause-count : goal.returns-clause-count
returns-clause-count c h =
    let run = c.run-status in
    absurd (run_is_not_8 c.args.script.now (record { rows = c.args.rows.now; count = c.args.count.now }) (record { rows = run.new.rows; count = run.new.count }) c.deref_mut.result.now run.new.self run.result
    run.ensures h)
