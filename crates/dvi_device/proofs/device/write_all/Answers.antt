use Rattle.std.proofs.Common.{◌≡◌, ◌<◌, ◌∙◌, ap, refl, arith, ℕ, take, drop, length, length-drop}
use Rattle.std.proofs.lemmas.List.{take_rest}
use Rattle.std.proofs.lemmas.Result.{err_from_is_err_and}
use Rattle.dvi_device.specs.Written.{written_then}
use Rattle.dvi_device.proofs.PastLaws.{met_by, met_again, failed_by, keeps_after}
use Rattle.dvi_device.proofs.Tellings.{grown_more}
use Rattle.dvi_device.proofs.device.write_all.Goals as goal

pub loop-sent-preserved : goal.loop-sent-preserved
loop-sent-preserved g c =
    let xs = c.args.bytes.now in
    let s = c.loop-sent.sent in
    let n = c.in_ok-sent.field-0 in
    let taken = rw take_rest at c.in_ok-sent.ensures.taken in
    let within = rw take_rest at c.in_ok-sent.ensures.count_bounded in
    let before = g.D.Device.past c.loop-sent.device in
    let after = g.D.Device.past c.write.new.self in
    record {
      within = omega (arith, within.1, length-drop s xs);
      taken = taken ∙ (ap (λ bytes_written. written_then bytes_written (take n (drop s xs))) c.loop-sent.invariant.taken ∙ grown_more _ xs s n);
      past = met_again _ before after s n c.loop-sent.invariant.past (met_by _ before.left _ n before after refl c.in_ok-sent.ensures.past);
      no_failure = c.in_ok-sent.ensures.no_failure ∙ c.loop-sent.invariant.no_failure;
    }

pub returns-in_err-sent-clause-past : goal.returns-in_err-sent-clause-past
returns-in_err-sent-clause-past g c =
    let xs = c.args.bytes.now in
    let s = c.loop-sent.sent in
    let before = g.D.Device.past c.loop-sent.device in
    let after = g.D.Device.past c.write.new.self in
    let compared = rw take_rest at c.in_err-sent.ensures.past in
    let some : 0 < length (drop s xs) = omega (arith, length-drop s xs, c.loop-sent-test.true) in
    let handed = err_from_is_err_and c.from_residual.result c.from_residual.ensures.1 in
    rw handed.1 (keeps_after _ before after xs s c.loop-sent.invariant.past (failed_by _ before.left (drop s xs) before after refl some compared))

pub returns-clause-past : goal.returns-clause-past
returns-clause-past g c =
    let whole : c.loop-sent.sent ≡ length c.args.bytes.now = omega (arith, c.loop-sent.invariant.within, c.loop-sent-test.false) in
    c.loop-sent.invariant.past ∙ ap (λ (n : ℕ). record (g.D.Device.past c.args.device.now) { left = drop n (g.D.Device.past c.args.device.now).left }) whole
