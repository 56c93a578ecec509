use Rattle.std.proofs.Common.{◌∙◌, arith}
use Rattle.job_state.proofs.Tables.{place_more}
use Rattle.job_state.proofs.table.put_above.Goals as goal

pub loop-preserved : goal.loop-preserved
loop-preserved c = record {
  items =
      place_more c.args.used.now.items c.loop.used.items c.push_reserved.new.self.items c.loop.counter
      (omega (arith, c.loop.auto.counter, c.len-counter.ensures)) c.loop.invariant.items c.push_reserved.ensures.items;
  capacity = c.push_reserved.ensures.capacity ∙ c.loop.invariant.capacity;
}
