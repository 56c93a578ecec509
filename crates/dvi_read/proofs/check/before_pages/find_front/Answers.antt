use Rattle.std.proofs.Common.{refl}
use Rattle.dvi_scan.proofs.ErrLemmas.{handed_on}
use Rattle.dvi_ops.specs.View.{view_postamble}
use Rattle.dvi_read.specs.Opening.{AtTheEnd, InThePreamble, IsFrontFault}
use Rattle.dvi_read.proofs.OpenLemmas.{chain_refused}
use Rattle.dvi_read.specs.Faults.{of_frame}
use Rattle.dvi_read.specs.declared.fault.DviFault.TheVariants.{Bad}
use Rattle.dvi_read.proofs.check.before_pages.find_front.Goals as goal

pub returns-in_err-ending-clause-bad : goal.returns-in_err-ending-clause-bad
returns-in_err-ending-clause-bad c =
    let bad = c.in_err-ending.field-0.0 in
    handed_on (IsFrontFault c.args.bytes.now) c.from_residual.result (Bad bad) c.from_residual.ensures.1 (AtTheEnd bad refl c.in_err-ending.ensures.bad)

pub returns-in_err-chain-clause-bad : goal.returns-in_err-chain-clause-bad
returns-in_err-chain-clause-bad c =
    let ending = c.in_ok-ending.ending in
    let fault = c.in_err-chain.field-0.0 in
    handed_on (IsFrontFault c.args.bytes.now) c.from_residual-in_err-chain.result (of_frame fault) c.from_residual-in_err-chain.ensures.1
    (chain_refused c.args.bytes.now ending.post ending.last (view_postamble ending.postamble) fault c.in_ok-ending.ensures.ok
    c.in_err-chain.ensures.bad)

pub returns-in_err-from-clause-bad : goal.returns-in_err-from-clause-bad
returns-in_err-from-clause-bad c =
    let ending = c.in_ok-ending.ending in
    let bad = c.in_err-from.field-0.0 in
    handed_on (IsFrontFault c.args.bytes.now) c.from_residual-in_err-from.result (Bad bad) c.from_residual-in_err-from.ensures.1
    (InThePreamble bad ending.post ending.after ending.last (view_postamble ending.postamble) c.in_ok-chain.chain.items refl
    (record {
      framed = record { ends = c.in_ok-ending.ensures.ok; spelled = c.in_ok-ending.ensures.after; low = c.in_ok-ending.ensures.low; high = c.in_ok-ending.ensures.high; links = c.in_ok-chain.ensures.found };
      count = c.in_ok-chain.ensures.count;
    })
    c.in_err-from.ensures.bad)
