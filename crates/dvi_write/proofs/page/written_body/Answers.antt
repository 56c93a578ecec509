use Rattle.dvi_ops.specs.Runs.{instructions_of}
use Rattle.dvi_write.specs.Admitted.{shipped_page}
use Rattle.dvi_write.proofs.WrittenBodies.{plain_drawn}
use Rattle.dvi_write.proofs.page.written_body.Goals as goal

pub reuse_runs-requires : goal.reuse_runs-requires
reuse_runs-requires c = plain_drawn (instructions_of c.in-Ok.drawn) (shipped_page c.args.page.now) (c.in-Ok.ensures.ok c.args.page.now.counts)
