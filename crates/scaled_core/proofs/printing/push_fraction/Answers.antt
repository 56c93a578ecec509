use Rattle.scaled_core.proofs.PrintingLemmas.{stops-items, goes-on, goes-items}
use Rattle.std.proofs.Common.{arith}
use Rattle.scaled_core.proofs.printing.push_fraction.Goals as goal

pub returns-then-rest-unit-clause-ok : goal.returns-then-rest-unit-clause-ok
returns-then-rest-unit-clause-ok c =
    stops-items c.args.fraction c.loop.counter c.loop.rest c.loop.unit c.rounded_last-left.result c.args.out.now.items c.loop.out.items c.push.new.self.items c.requires c.loop.invariant.0 c.rounded_last-left.ensures c.loop.invariant.1 c.in_ok-push.ensures.items c.if-rest-unit.true

pub loop-preserved : goal.loop-preserved
loop-preserved c = (
  goes-on c.args.fraction c.loop.counter c.loop.rest c.loop.unit c.rounded_last-left.result c.loop.invariant.0 c.rounded_last-left.ensures c.if-rest-unit.false,
  goes-items c.args.fraction c.loop.counter c.loop.rest c.loop.unit c.rounded_last-left.result c.args.out.now.items c.loop.out.items c.push.new.self.items c.loop.invariant.0 c.rounded_last-left.ensures c.loop.invariant.1 c.in_ok-push.ensures.items c.if-rest-unit.false,
  omega (arith, c.loop.invariant.2, c.in_ok-push.ensures.len),
  omega (arith, c.loop.invariant.3, c.in_ok-push.ensures.capacity),
)
