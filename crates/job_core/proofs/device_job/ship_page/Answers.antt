use Rattle.std.proofs.Common.{Ok, Err, refl, ap, sym, ◌∙◌, subst}
use Rattle.std.specs.Option.{option_copied}
use Rattle.job_machine.specs.declared.replies.Answer.TheVariants.{Done}
use Rattle.job_machine.specs.declared.command.Command.TheVariants.{Ship, Void}
use Rattle.job_machine.specs.declared.replies.Refusal.{Refusal}
use Rattle.dvi_write.specs.declared.fault.WriteFault.{WriteFault}
use Rattle.page_core.specs.Pages.{page_with}
use Rattle.dvi_write.specs.Writing.{Writing}
use Rattle.job_state.specs.JobStateView.{JobStateView, before_shipping}
use Rattle.job_core.specs.Jobs.{KeepsTo}
use Rattle.job_core.specs.Private.Sound.{IsSound, IsBoundedFile, view_of}
use Rattle.job_core.proofs.BoundedFiles.{bounded_next, definable}
use Rattle.job_core.proofs.Moves.{sound_after}
use Rattle.job_core.proofs.Ships.{page_is, may_ship, void_refused, shipped, unshipped_for, part_of, part_since, is_lost, is_other, bounded_unshipped}
use Rattle.job_core.proofs.device_job.ship_page.Goals as goal

pub page-requires : goal.page-requires
page-requires g c =
    rw c.fonts.ensures (may_ship (before_shipping c.args.state.now) c.args.register c.in-Some.box_node.now c.requires.sound (sym c.box_in.ensures ∙ ap option_copied c.in-Some.is))

pub returns-in_default-clause-keeps : goal.returns-in_default-clause-keeps
returns-in_default-clause-keeps g c =
    void_refused c.args.state.now c.args.writer.now c.args.register c.requires.running (sym c.box_in.ensures ∙ ap option_copied c.in_default.is)

pub returns-in-Ok-clause-keeps : goal.returns-in-Ok-clause-keeps
returns-in-Ok-clause-keeps g c =
    let state = c.args.state.now in
    let b = c.in-Some.box_node.now in
    let page = page_with c.counts.result.now c.offsets.result b in
    let is = sym c.box_in.ensures ∙ ap option_copied c.in-Some.is in
    let same = page_is (before_shipping state) c.counts.result.now c.offsets.result b c.counts.ensures c.offsets.ensures in
    shipped state c.args.writer.now c.args.register b page is same c.empty.new.self c.page.new.self c.fonts.result.now c.empty.ensures c.in-Ok.ensures.kept c.requires.running
    c.in-Ok.ensures.running c.in-Ok.ensures.may c.pages.result c.pages.ensures c.in-Ok.ensures.no_failure c.page.ensures.goes_on
    (rw c.fonts.ensures at c.in-Ok.ensures.written)

pub returns-in-Ok-clause-sound : goal.returns-in-Ok-clause-sound
returns-in-Ok-clause-sound g c =
    subst (λ (k : JobStateView). IsSound (before_shipping k)) (sym c.empty.ensures) (sound_after (before_shipping c.args.state.now) (Void c.args.register) (Ok Done) refl tt c.requires.sound)

pub returns-in-Ok-clause-bounded : goal.returns-in-Ok-clause-bounded
returns-in-Ok-clause-bounded g c = λ running.
    let state = c.args.state.now in
    let page = page_with c.counts.result.now c.offsets.result c.in-Some.box_node.now in
    subst (λ (k : JobStateView). IsBoundedFile k.fonts c.page.new.self) (sym c.empty.ensures)
    (bounded_next state.fonts c.args.writer.now c.page.new.self page (definable state.files state.fonts c.requires.sound.fonts) c.in-Ok.ensures.may
    (rw c.fonts.ensures at c.in-Ok.ensures.kept) (rw c.fonts.ensures at c.in-Ok.ensures.written) c.requires.bounded)

pub returns-in-Err-clause-bounded : goal.returns-in-Err-clause-bounded
returns-in-Err-clause-bounded g c = λ running.
    bounded_unshipped c.args.state.now.fonts c.args.writer.now c.page.new.self (page_with c.counts.result.now c.offsets.result c.in-Some.box_node.now) c.in-Err.fault c.in-Err.ensures.refused
    c.in-Err.ensures.same (λ lost. c.page.ensures.over (c.in-Err.is ∙ ap (λ (f : WriteFault). Err f) lost)) c.requires.bounded running

pub returns-in-Err-clause-keeps : goal.returns-in-Err-clause-keeps
returns-in-Err-clause-keeps g c =
    let state = c.args.state.now in
    let w = c.args.writer.now in
    let b = c.in-Some.box_node.now in
    let page = page_with c.counts.result.now c.offsets.result b in
    let is = sym c.box_in.ensures ∙ ap option_copied c.in-Some.is in
    let same = page_is (before_shipping state) c.counts.result.now c.offsets.result b c.counts.ensures c.offsets.ensures in
    subst (λ (x : Refusal). KeepsTo (view_of state w) (Ship c.args.register) (Err x) (view_of state c.page.new.self)) (sym c.write_refusal.ensures)
    (unshipped_for state w c.args.register b page is same c.page.new.self c.in-Err.fault c.in-Err.ensures.refused c.in-Err.ensures.same
    (λ lost. c.page.ensures.failed (c.in-Err.is ∙ ap (λ (f : WriteFault). Err f) lost)) (λ lost. c.page.ensures.over (c.in-Err.is ∙ ap (λ (f : WriteFault). Err f) lost))
    (λ lost. c.page.ensures.so_far (c.in-Err.is ∙ ap (λ (f : WriteFault). Err f) lost)) c.requires.running c.page.ensures.goes_on
    (λ lost. part_since c.fonts.result.now state.fonts w c.page.new.self.bytes_written page c.fonts.ensures (c.page.ensures.since (c.in-Err.is ∙ ap (λ (f : WriteFault). Err f) lost)))
    (λ lost. rw c.fonts.ensures at (c.page.ensures.past (c.in-Err.is ∙ ap (λ (f : WriteFault). Err f) lost))))

pub returns-in-Err-clause-same : goal.returns-in-Err-clause-same
returns-in-Err-clause-same g c = λ other. ap (λ (w : Writing). view_of c.args.state.now w) (c.in-Err.ensures.same (is_other c.in-Err.fault (λ lost. other (c.write_refusal.ensures ∙ lost))))

pub returns-in-Err-clause-part : goal.returns-in-Err-clause-part
returns-in-Err-clause-part g c =
    let state = c.args.state.now in
    let b = c.in-Some.box_node.now in
    let page = page_with c.counts.result.now c.offsets.result b in
    let is = sym c.box_in.ensures ∙ ap option_copied c.in-Some.is in
    let same = page_is (before_shipping state) c.counts.result.now c.offsets.result b c.counts.ensures c.offsets.ensures in
    λ replied.
    let lost = is_lost c.in-Err.fault (Err c.write_refusal.result) (ap (λ (x : Refusal). Err x) c.write_refusal.ensures) replied in
    part_of state c.args.writer.now c.args.register b page is same c.page.new.self c.requires.running
    (part_since c.fonts.result.now state.fonts c.args.writer.now c.page.new.self.bytes_written page c.fonts.ensures (c.page.ensures.since (c.in-Err.is ∙ ap (λ (f : WriteFault). Err f) lost)))
