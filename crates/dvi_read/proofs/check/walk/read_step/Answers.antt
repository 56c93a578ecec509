use Rattle.std.proofs.Common.{◌-◌, Err, ap, min, arith}
use Rattle.dvi_ops.specs.View.{view_postamble, view}
use Rattle.dvi_scan.proofs.ErrLemmas.{handed_on}
use Rattle.dvi_scan.specs.Ends.{IsSpelledAt, cause_of}
use Rattle.dvi_scan.specs.declared.executing.PassFault.TheVariants.{Broken}
use Rattle.dvi_read.specs.Private.Walks.{IsReadingFault}
use Rattle.dvi_read.specs.WalkFaults.{page_bytes}
use Rattle.dvi_read.specs.declared.fault.StepFault.TheVariants.{Pass}
use Rattle.dvi_read.proofs.WalkLemmas.{taken_fault, unspelled_fault}
use Rattle.dvi_read.proofs.check.walk.read_step.Goals as goal

pub returns-in_err-op-clause-bad : goal.returns-in_err-op-clause-bad
returns-in_err-op-clause-bad c =
    let source = c.args.source.now in
    let most = min 1024 (view_postamble source.ending.now.postamble).stack_depth in
    let part = page_bytes source.after_post.now.keys source.bytes.now most source.ending.now.post in
    let fault = c.in_err-op.field-0.0 in
    handed_on (IsReadingFault source.files.now part c.args.at c.args.walk.now) c.from_residual.result (Pass (Broken (cause_of fault)))
    c.from_residual.ensures.1
    (unspelled_fault source.files.now part c.args.at c.args.walk.now fault c.in_err-op.ensures.none
    (λ is. c.in_err-op.ensures.opcode (ap Err is)) (λ is. c.in_err-op.ensures.truncated (ap Err is) c.requires.low))

pub returns-in_err-step-clause-bad : goal.returns-in_err-step-clause-bad
returns-in_err-step-clause-bad c =
    let source = c.args.source.now in
    let post = source.ending.now.post in
    let most = min 1024 (view_postamble source.ending.now.postamble).stack_depth in
    let part = page_bytes source.after_post.now.keys source.bytes.now most post in
    let after = c.in_ok-op.ensures.after in
    let within = c.in_ok-op.ensures.end_bounded in
    let spelled_at : IsSpelledAt source.bytes.now c.args.at post (view c.in_ok-op.op) =
    (c.in_ok-op.next - c.args.at, omega arith, c.in_ok-op.ensures.found) in
    let fault = c.in_err-step.field-0.0 in
    handed_on (IsReadingFault source.files.now part c.args.at c.args.walk.now) c.from_residual-in_err-step.result fault
    c.from_residual-in_err-step.ensures.1
    (taken_fault source.files.now source.after_post.now.keys source.bytes.now (view_postamble source.ending.now.postamble) c.args.at post
    c.args.walk.now (view c.in_ok-op.op) fault spelled_at c.in_err-step.ensures.bad)
