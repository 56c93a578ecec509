-- The script of standard input, and its answers.
use Rattle.std.proofs.Common.{Ok, refl}
use Rattle.boxglue_program.specs.Reports.{written_bytes}
use Rattle.boxglue_lib.specs.Programs.{input_rules}
use Rattle.boxglue_lib.proofs.EndLemmas.{ends_unrun, mapped_ok}
use Rattle.boxglue_lib.proofs.tasks.run_input.Goals as goal

pub returns-clause-ended : goal.returns-clause-ended
returns-clause-ended g c =
    let done = c.in_ok-accepted.ensures.sent in
    let read = mapped_ok _ c.read_whole.result (Ok c.in_ok-text.text) c.in_ok-text.text refl c.read_whole.ensures.ok c.in_ok-text.ensures.cases in
    (done.0, (c.deref.result.now, rw c.deref.ensures.value read, done.1), done.2)

pub returns-in_err-accepted-clause-ended : goal.returns-in_err-accepted-clause-ended
returns-in_err-accepted-clause-ended g c =
    let read = mapped_ok _ c.read_whole.result (Ok c.in_ok-text.text) c.in_ok-text.text refl c.read_whole.ensures.ok c.in_ok-text.ensures.cases in
    ends_unrun (input_rules written_bytes (g.I.Read.remaining c.args.input)) c.deref.result.now c.in_err-accepted.field-0.0
    c.from_residual-in_err-accepted.result _ _ c.from_residual-in_err-accepted.ensures.1
    (λ answer fine is. (c.deref.result.now, rw c.deref.ensures.value read, is)) c.in_err-accepted.ensures.left_sent
