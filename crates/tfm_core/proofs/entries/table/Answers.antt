use Rattle.tfm_core.proofs.TableLemmas.{table_pushed}
use Rattle.tfm_core.proofs.entries.table.Goals as goal

pub loop-k-preserved : goal.loop-k-preserved
loop-k-preserved g c =
    table_pushed g.E.TableEntry.says c.args.bytes.now c.args.place c.loop-k.k c.loop-k.entries.items _ c.from_bytes.result c.in_ok-push.ensures.items c.loop-k.invariant c.from_bytes.ensures
