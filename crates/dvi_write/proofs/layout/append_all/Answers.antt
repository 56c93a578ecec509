use Rattle.dvi_write.proofs.Spelled.{spelled_at}
use Rattle.dvi_write.proofs.layout.append_all.Goals as goal

pub spell-requires : goal.spell-requires
spell-requires c = spelled_at c.args.ops.now c.loop-op.op-index _ c.requires c.loop-op-test.true
