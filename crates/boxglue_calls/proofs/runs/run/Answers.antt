-- The run, as it is handed over.
use Rattle.std.proofs.Common.{◌≡◌, inr, length, refl, rules}
use Rattle.boxglue_program.specs.Reports.{any_bytes, written_bytes}
use Rattle.boxglue_calls.specs.Fonts.{files_of}
use Rattle.boxglue_calls.specs.Runs.{IsRun}
use Rattle.boxglue_calls.proofs.RunLaws.{handed_run, is_done, run_unsaid}
use Rattle.boxglue_calls.proofs.StatusLaws.{handed_over}
use Rattle.boxglue_calls.proofs.runs.run.Goals as goal

pub returns-clause-sent : goal.returns-clause-sent
returns-clause-sent c =
    let results = c.in-Ok.results in
    let size : c.len.result ≡ length results.answers.items = search rules in
    inr (inr (handed_run (IsRun written_bytes c.args.script.now (files_of c.args.fonts.now)) _ _ _ _ _ results.status c.hand_over_both.result
    results.answers.items results.device.bytes _ _ c.in-Ok.ensures c.deref.ensures.value c.bytes-bytes.ensures c.hand_over_both.ensures size refl))

pub returns-clause-done : goal.returns-clause-done
returns-clause-done c =
    let results = c.in-Ok.results in
    let size : c.len.result ≡ length results.answers.items = search rules in
    let unsaid = run_unsaid c.args.script.now (files_of c.args.fonts.now) results.answers.items results.device.bytes results.status c.in-Ok.ensures in
    inr (inr (handed_run (IsRun any_bytes c.args.script.now (files_of c.args.fonts.now)) _ _ _ _ _ results.status c.hand_over_both.result
    results.answers.items results.device.bytes _ _ unsaid c.deref.ensures.value c.bytes-bytes.ensures c.hand_over_both.ensures size refl))

pub returns-clause-named : goal.returns-clause-named
returns-clause-named c =
    let results = c.in-Ok.results in
    let done = is_done c.args.script.now (files_of c.args.fonts.now) results.answers.items results.device.bytes results.status c.in-Ok.ensures in (
      (λ h. absurd (handed_over _ _ _ _ _ _ results.status c.hand_over_both.result done c.hand_over_both.ensures (inr h))),
      (λ h. let named = c.are_named.ensures in let were = c.if-not-are_named.false in absurd (cc)),
    )

pub returns-clause-answers : goal.returns-clause-answers
returns-clause-answers c h =
    let results = c.in-Ok.results in
    let done = is_done c.args.script.now (files_of c.args.fonts.now) results.answers.items results.device.bytes results.status c.in-Ok.ensures in
    absurd (handed_over _ _ _ _ _ _ results.status c.hand_over_both.result done c.hand_over_both.ensures h)

pub returns-clause-dvi : goal.returns-clause-dvi
returns-clause-dvi c h =
    let results = c.in-Ok.results in
    let done = is_done c.args.script.now (files_of c.args.fonts.now) results.answers.items results.device.bytes results.status c.in-Ok.ensures in
    absurd (handed_over _ _ _ _ _ _ results.status c.hand_over_both.result done c.hand_over_both.ensures h)

pub returns-clause-lengths : goal.returns-clause-lengths
returns-clause-lengths c h =
    let results = c.in-Ok.results in
    let done = is_done c.args.script.now (files_of c.args.fonts.now) results.answers.items results.device.bytes results.status c.in-Ok.ensures in
    absurd (handed_over _ _ _ _ _ _ results.status c.hand_over_both.result done c.hand_over_both.ensures h)
