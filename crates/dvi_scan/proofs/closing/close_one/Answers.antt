use Rattle.dvi_ops.specs.Instruction.{FontDef, Do}
use Rattle.dvi_ops.specs.View.{definition, view}
use Rattle.std.proofs.Common.{sym, ap, subst}
use Rattle.dvi_scan.specs.declared.fault.FrameFault.{FrameFault}
use Rattle.dvi_scan.specs.Private.Closing.{IsFaultAt}
use Rattle.dvi_scan.proofs.ClosingLemmas.{definition_fault, read_found}
use Rattle.dvi_scan.proofs.closing.close_one.Goals as goal

pub returns-in-Err-define-clause-bad : goal.returns-in-Err-define-clause-bad
returns-in-Err-define-clause-bad c =
    let known = c.args.known.now in
    let d = definition c.in-FontDef.font in
    let spelled_at = read_found c.args.bytes.now c.args.at c.in-Ok.found.1 c.args.to (view c.in-Ok.found.0) (Do (FontDef d)) c.in-Ok.ensures.after
    c.in-Ok.ensures.end_bounded c.in-Ok.ensures.found (ap view c.in-FontDef.is) in
    subst (λ (fault : FrameFault). IsFaultAt c.args.bytes.now c.args.at c.args.to known c.define.new.known fault) (sym c.at.ensures)
    (definition_fault c.args.bytes.now c.args.at c.args.to known c.define.new.known d c.in-Err-define.fault c.in-Err-define.ensures.err spelled_at
    c.in-Err-define.ensures.bad)
