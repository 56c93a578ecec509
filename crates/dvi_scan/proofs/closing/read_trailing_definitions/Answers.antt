use Rattle.std.proofs.Common.{arith}
use Rattle.dvi_scan.specs.Closing.{IsClosingFault}
use Rattle.dvi_scan.proofs.ErrLemmas.{handed_on}
use Rattle.dvi_scan.proofs.ClosingLemmas.{closes_more, fault_on_the_way}
use Rattle.dvi_scan.proofs.closing.read_trailing_definitions.Goals as goal

pub returns-in_err-at-clause-bad : goal.returns-in_err-at-clause-bad
returns-in_err-at-clause-bad c =
    handed_on (IsClosingFault c.args.bytes.now c.args.from c.args.to c.args.known.now c.close_one.new.known) c.from_residual.result c.in_err-at.field-0.0 c.from_residual.ensures.1
    (fault_on_the_way c.args.bytes.now c.args.from c.loop-at.at c.args.to c.args.known.now c.loop-at.known c.close_one.new.known c.in_err-at.field-0.0
    c.loop-at.invariant.0 c.loop-at-test.true c.loop-at.invariant.2 c.in_err-at.ensures.bad)

pub loop-at-preserved : goal.loop-at-preserved
loop-at-preserved c =
    let one = c.in_ok-at.ensures.ok in
    let low = c.loop-at.invariant.0 in
    let forward = one.forward in (
      omega arith,
      one.within,
      closes_more c.args.bytes.now c.args.from c.loop-at.at c.args.to c.in_ok-at.at c.args.known.now c.loop-at.known c.close_one.new.known
          low c.requires.high c.loop-at.invariant.2 one,
    )
