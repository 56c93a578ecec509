use Rattle.std.proofs.Common.{◌≡◌, ap, sym, subst, ◌∙◌, Err, map}
use Rattle.dvi_write.specs.declared.fault.WriteFault.{WriteFault}
use Rattle.dvi_write.specs.Writing.{Writing}
use Rattle.job_machine.specs.declared.replies.Refusal.{Refusal}
use Rattle.job_machine.specs.declared.replies.Refusal.TheVariants.{OutOfMemory, Device}
use Rattle.job_core.specs.Jobs.{FinishesTo}
use Rattle.dvi_device.proofs.PastLaws.{keeps_taken}
use Rattle.tfm_core.specs.Slots.{Slots}
use Rattle.dvi_write.specs.Closing.{IsClosedFor}
use Rattle.dvi_write.specs.Layout.{whole}
use Rattle.dvi_ops.specs.File.{IsFileOfPages}
use Rattle.page_core.specs.Marks.{read_page}
use Rattle.dvi_write.specs.Shippable.{GivesFonts}
use Rattle.job_core.specs.Private.Sound.{view_of}
use Rattle.job_core.proofs.FreshDevices.{said}
use Rattle.job_core.proofs.Endings.{over_refused, open_refused, may_finish, has_written_by, fonts_are, sent_by, part_by, kept_by, some_where, finished, wanting, losing, unfinished, stopped, filed, count_by, size_by}
use Rattle.job_core.proofs.BoundedFiles.{small_file}
use Rattle.job_core.proofs.Ships.{is_lost, is_other}
use Rattle.job_core.proofs.device_job.Job.finish.Goals as goal

pub returns-then-is_over-clause-finished : goal.returns-then-is_over-clause-finished
returns-then-is_over-clause-finished g c = rw (← c.self.view_is) (over_refused _ (sym c.is_over.ensures ∙ c.if-is_over.true))

pub returns-then-is_open-clause-finished : goal.returns-then-is_open-clause-finished
returns-then-is_open-clause-finished g c =
    rw (← c.self.view_is) (open_refused _ (sym c.is_over.ensures ∙ c.if-is_over.false) (sym c.is_open.ensures ∙ c.if-is_open.true))

pub returns-clause-finished : goal.returns-clause-finished
returns-clause-finished g c =
    let running = sym c.is_over.ensures ∙ c.if-is_over.false in
    let old = view_of c.self.inside.state c.self.inside.writer in
    rw (← c.self.view_is)
    (finished old _ _ (may_finish old.state running (sym c.is_open.ensures ∙ c.if-is_open.false))
    (stopped c.self.inside.state c.self.inside.writer c.finish.new.self c.finish.ensures.so_far c.in-Ok.ensures.over)
    (λ m holds. c.in-Ok.ensures.pages _ m.pages (has_written_by old m c.fonts.result.now holds running c.fonts.ensures)) c.in-Ok.ensures.no_failure
    (c.finish.ensures.goes_on.more, c.finish.ensures.goes_on.grows)
    (λ m holds.
    sent_by old m c.fonts.result.now c.finish.new.self.bytes_written holds c.fonts.ensures (c.in-Ok.ensures.whole _ m.pages (has_written_by old m c.fonts.result.now holds running c.fonts.ensures)))
    (λ m holds.
    let taken = c.in-Ok.ensures.past _ m.pages (has_written_by old m c.fonts.result.now holds running c.fonts.ensures) in
    kept_by old m c.fonts.result.now old.began c.finish.new.self.began c.finish.new.self.past holds c.fonts.ensures c.finish.ensures.goes_on.began
    (keeps_taken old.began c.finish.new.self.past (whole c.fonts.result.now m.pages) (whole c.fonts.result.now m.pages) taken)))

pub returns-clause-file : goal.returns-clause-file
returns-clause-file g c =
    let running = sym c.is_over.ensures ∙ c.if-is_over.false in
    let old = view_of c.self.inside.state c.self.inside.writer in
    rw (← c.self.view_is)
    (λ m holds.
    sent_by old m c.fonts.result.now c.finish.new.self.bytes_written holds c.fonts.ensures (c.in-Ok.ensures.whole _ m.pages (has_written_by old m c.fonts.result.now holds running c.fonts.ensures)))

pub returns-clause-count : goal.returns-clause-count
returns-clause-count g c =
    let running = sym c.is_over.ensures ∙ c.if-is_over.false in
    let old = view_of c.self.inside.state c.self.inside.writer in
    rw (← c.self.view_is)
    (λ m holds. count_by old m c.fonts.result.now _ holds c.fonts.ensures (c.in-Ok.ensures.size _ m.pages (has_written_by old m c.fonts.result.now holds running c.fonts.ensures)))

pub returns-clause-size : goal.returns-clause-size
returns-clause-size g c =
    let running = sym c.is_over.ensures ∙ c.if-is_over.false in
    let old = view_of c.self.inside.state c.self.inside.writer in
    let fonts = c.fonts.result.now in
    rw (← c.self.view_is)
    (λ m holds.
    let written = has_written_by old m fonts holds running c.fonts.ensures in
    size_by c.self.inside.writer.bytes_written c.finish.new.self.bytes_written (whole fonts m.pages) _ (c.in-Ok.ensures.whole _ m.pages written) (c.in-Ok.ensures.size _ m.pages written))

pub returns-clause-dvi : goal.returns-clause-dvi
returns-clause-dvi g c =
    let running = sym c.is_over.ensures ∙ c.if-is_over.false in
    let old = view_of c.self.inside.state c.self.inside.writer in
    let fonts = c.fonts.result.now in
    rw (← c.self.view_is)
    (λ m metrics holds gives.
    let written = has_written_by old m fonts holds running c.fonts.ensures in
    said c.self.inside.writer.bytes_written c.finish.new.self.bytes_written (whole fonts m.pages) (λ bytes. IsFileOfPages metrics bytes (map read_page m.pages)) (c.in-Ok.ensures.whole _ m.pages written)
    (filed old m metrics (whole fonts m.pages) holds c.self.invariant.0.fonts gives
    (λ given. c.in-Ok.ensures.file _ m.pages metrics written (subst (GivesFonts metrics) (sym (fonts_are old m fonts holds c.fonts.ensures)) given))))

pub returns-clause-end : goal.returns-clause-end
returns-clause-end g c =
    let running = sym c.is_over.ensures ∙ c.if-is_over.false in
    let old = view_of c.self.inside.state c.self.inside.writer in
    let fonts = c.fonts.result.now in
    rw (← c.self.view_is)
    (λ m holds some.
    let written = has_written_by old m fonts holds running c.fonts.ensures in
    said c.self.inside.writer.bytes_written c.finish.new.self.bytes_written (whole fonts m.pages) (λ bytes. IsClosedFor m.state.fonts bytes m.pages) (c.in-Ok.ensures.whole _ m.pages written)
    (subst (λ (f : Slots). IsClosedFor f (whole fonts m.pages) m.pages) (fonts_are old m fonts holds c.fonts.ensures) (c.in-Ok.ensures.closed _ m.pages written some)))

pub returns-clause-small : goal.returns-clause-small
returns-clause-small g c =
    let state = c.self.inside.state in
    small_file state.files state.fonts c.fonts.result.now c.self.inside.writer _ c.fonts.ensures c.self.invariant.0.fonts (c.self.invariant.1 (sym c.is_over.ensures ∙ c.if-is_over.false)) c.in-Ok.ensures.size

pub returns-in-Err-clause-finished : goal.returns-in-Err-clause-finished
returns-in-Err-clause-finished g c =
    let running = sym c.is_over.ensures ∙ c.if-is_over.false in
    let state = c.self.inside.state in
    let w = c.self.inside.writer in
    let now = c.finish.new.self in
    let old = view_of state w in
    let fonts = c.fonts.result.now in
    let may = may_finish old.state running (sym c.is_open.ensures ∙ c.if-is_open.false) in
    let some = some_where w c.in-Err.fault running c.in-Err.ensures.refused in
    rw (← c.self.view_is)
    (subst (λ (x : Refusal). FinishesTo old (Err x) (view_of state now)) (sym c.write_refusal.ensures)
    (unfinished old (view_of state now) w c.in-Err.fault running c.in-Err.ensures.refused
    (λ other. subst (λ (v : Writing). FinishesTo old (Err OutOfMemory) (view_of state v)) (sym (c.in-Err.ensures.same other)) (wanting old may running some))
    (λ is.
    let lost = c.in-Err.is ∙ ap (λ (f : WriteFault). Err f) is in
    losing old (view_of state now) may running some (stopped state w now c.finish.ensures.so_far (c.finish.ensures.lost lost)) (c.finish.ensures.failed lost)
    (c.finish.ensures.goes_on.more, c.finish.ensures.goes_on.grows)
    (λ m holds. part_by old m fonts now.bytes_written holds running c.fonts.ensures some (c.finish.ensures.since lost))
    (λ m holds.
    kept_by old m fonts old.began now.began now.past holds c.fonts.ensures c.finish.ensures.goes_on.began
    (c.finish.ensures.past_lost lost _ m.pages (has_written_by old m fonts holds running c.fonts.ensures))))))

pub returns-in-Err-clause-same : goal.returns-in-Err-clause-same
returns-in-Err-clause-same g c = λ other.
    rw (← c.self.view_is)
    (ap (λ (w : Writing). view_of c.self.inside.state w) (c.in-Err.ensures.same (is_other c.in-Err.fault (λ lost. other (c.write_refusal.ensures ∙ lost)))))

pub returns-in-Err-clause-part : goal.returns-in-Err-clause-part
returns-in-Err-clause-part g c = λ replied.
    let running = sym c.is_over.ensures ∙ c.if-is_over.false in
    let old = view_of c.self.inside.state c.self.inside.writer in
    let device : c.write_refusal.result ≡ Device = cc (replied) in
    let is = is_lost c.in-Err.fault (Err c.write_refusal.result) (ap (λ (x : Refusal). Err x) c.write_refusal.ensures) (ap (λ (x : Refusal). Err x) device) in
    let lost = c.in-Err.is ∙ ap (λ (f : WriteFault). Err f) is in
    rw (← c.self.view_is)
    (λ m holds.
    part_by old m c.fonts.result.now c.finish.new.self.bytes_written holds running c.fonts.ensures (some_where c.self.inside.writer c.in-Err.fault running c.in-Err.ensures.refused)
    (c.finish.ensures.since lost))
