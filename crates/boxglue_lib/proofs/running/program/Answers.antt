-- The task that was done, without what the rules of the writer say.
use Rattle.std.proofs.Common.{inr}
use Rattle.boxglue_lib.proofs.Unsaid.{done_unsaid}
use Rattle.boxglue_lib.proofs.running.program.Goals as goal

pub returns-in-Ok-clause-ran : goal.returns-in-Ok-clause-ran
returns-in-Ok-clause-ran g c =
    let done = rw (c.into_parts-host.ensures.input, c.into_parts-host.ensures.files) at c.do_task.ensures in
    inr (c.in-Ok.task, c.in-Ok.ensures.ok, done_unsaid c.in-Ok.task _ _ _ _ _ done)
