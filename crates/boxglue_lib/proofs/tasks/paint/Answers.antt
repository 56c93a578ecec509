-- An input was not read, or the page was not painted.
use Rattle.std.proofs.Common.{ap, Err, subst}
use Rattle.boxglue_lib.specs.Inputs.{IsUnreadDvi}
use Rattle.boxglue_lib.specs.Printed.{painting_rules}
use Rattle.boxglue_lib.proofs.EndLemmas.{ends_unprinted, ends_unread}
use Rattle.boxglue_lib.proofs.tasks.paint.Goals as goal

pub returns-in_err-inputs-clause-ended : goal.returns-in_err-inputs-clause-ended
returns-in_err-inputs-clause-ended g c =
    ends_unread (painting_rules (g.H.FileHost.file c.args.host.now) c.args.options c.args.dvi.now c.args.fonts.now) c.in_err-inputs.field-0.0 c.from_residual.result _
    c.from_residual.ensures.1
    (λ path is. subst (λ fault. IsUnreadDvi (g.H.FileHost.file c.args.host.now) c.args.dvi.now c.args.fonts.now fault) is c.in_err-inputs.ensures.err)

pub returns-in_err-accepted-clause-ended : goal.returns-in_err-accepted-clause-ended
returns-in_err-accepted-clause-ended g c =
    let failed = c.in_err-accepted in
    ends_unprinted (painting_rules (g.H.FileHost.file c.args.host.now) c.args.options c.args.dvi.now c.args.fonts.now) failed.field-0.0
    c.from_residual-in_err-accepted.result _ _ c.from_residual-in_err-accepted.ensures.1
    (λ is.
    let front = failed.ensures.unwritten (ap Err is) in (
      front.0,
      front.1,
      (
        c.deref.result.now,
        c.deref-2.result.now,
        record { bytes_are = rw c.deref.ensures.value c.in_ok-inputs.ensures.dvi; files_are = rw c.deref-2.ensures.value c.in_ok-inputs.ensures.files },
        front.2,
      ),
      front.3,
    ))
    (λ is. failed.ensures.silent (ap Err is))
    (λ is. (
      (
        c.deref.result.now,
        c.deref-2.result.now,
        record { bytes_are = rw c.deref.ensures.value c.in_ok-inputs.ensures.dvi; files_are = rw c.deref-2.ensures.value c.in_ok-inputs.ensures.files },
        failed.ensures.missing (ap Err is),
      ),
      failed.ensures.unpainted (ap Err is),
    ))
