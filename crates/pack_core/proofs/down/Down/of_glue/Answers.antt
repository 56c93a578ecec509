use Rattle.pack_core.proofs.down.Down.of_glue.Goals as goal

pub returns-clause-bound : goal.returns-clause-bound
returns-clause-bound c = c.pass.ensures.bound 0 c.new-down.ensures.bound
