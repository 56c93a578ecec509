use Rattle.boxglue_lib.proofs.tasks.tell_unwritten.Goals as goal

pub returns-then-not-written : goal.returns-then-not-written
returns-then-not-written g c = rw c.if-not-written.true c.tell.ensures
