-- The replies, as they are handed over.
use Rattle.std.proofs.Common.{◌≡◌, inr, length, refl, rules}
use Rattle.boxglue_calls.specs.Fonts.{files_of}
use Rattle.boxglue_calls.proofs.StatusLaws.{handed_over}
use Rattle.boxglue_calls.proofs.RunLaws.{handed_run}
use Rattle.boxglue_calls.specs.Whole.{IsReplied}
use Rattle.boxglue_calls.proofs.WholeLaws.{is_done}
use Rattle.boxglue_calls.proofs.jobs.whole.run_replies.Goals as goal

pub returns-clause-done : goal.returns-clause-done
returns-clause-done c =
    let ran = c.in-Ok.ran in
    let size : c.len.result ≡ length ran.rows.items = search rules in
    inr (inr (handed_run (IsReplied c.args.script.now (files_of c.args.fonts.now)) _ _ _ _ _ ran.status c.hand_over_both.result ran.rows.items ran.device.bytes _ _
    c.in-Ok.ensures c.deref.ensures.value c.bytes-bytes.ensures c.hand_over_both.ensures size refl))

pub returns-clause-named : goal.returns-clause-named
returns-clause-named c = (
  (λ h. absurd (handed_over _ _ _ _ _ _ c.in-Ok.ran.status c.hand_over_both.result
      (is_done c.args.script.now (files_of c.args.fonts.now) c.in-Ok.ran.rows.items c.in-Ok.ran.device.bytes c.in-Ok.ran.status c.in-Ok.ensures) c.hand_over_both.ensures (inr h))),
  (λ h. let named = c.are_named.ensures in let were = c.if-not-are_named.false in absurd (cc)),
)

pub returns-clause-rows : goal.returns-clause-rows
returns-clause-rows c h = absurd (handed_over _ _ _ _ _ _ c.in-Ok.ran.status c.hand_over_both.result
    (is_done c.args.script.now (files_of c.args.fonts.now) c.in-Ok.ran.rows.items c.in-Ok.ran.device.bytes c.in-Ok.ran.status c.in-Ok.ensures) c.hand_over_both.ensures h)

pub returns-clause-dvi : goal.returns-clause-dvi
returns-clause-dvi c h = absurd (handed_over _ _ _ _ _ _ c.in-Ok.ran.status c.hand_over_both.result
    (is_done c.args.script.now (files_of c.args.fonts.now) c.in-Ok.ran.rows.items c.in-Ok.ran.device.bytes c.in-Ok.ran.status c.in-Ok.ensures) c.hand_over_both.ensures h)

pub returns-clause-sizes : goal.returns-clause-sizes
returns-clause-sizes c h = absurd (handed_over _ _ _ _ _ _ c.in-Ok.ran.status c.hand_over_both.result
    (is_done c.args.script.now (files_of c.args.fonts.now) c.in-Ok.ran.rows.items c.in-Ok.ran.device.bytes c.in-Ok.ran.status c.in-Ok.ensures) c.hand_over_both.ensures h)
