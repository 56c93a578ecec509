-- A new job represents the first machine.
use Rattle.std.proofs.Common.{◌≡◌, ℕ, List, [], Option, Some, None, refl, ap, sym, ◌∙◌, subst}
use Rattle.std.specs.Prelude.{IfSome}
use Rattle.tfm_core.specs.NamedBytes.{NamedBytes}
use Rattle.dvi_device.proofs.PastLaws.{keeps_taken}
use Rattle.dvi_write.specs.Layout.{unfinished_file}
use Rattle.dvi_write.specs.SoFar.{ProgressView}
use Rattle.dvi_write.specs.Writing.{Writing, HasWritten}
use Rattle.job_machine.specs.State.{first_state}
use Rattle.job_machine.specs.Machine.{first_machine}
use Rattle.job_state.specs.JobStateView.{JobStateView, state_of, before_shipping}
use Rattle.job_state.proofs.SizedGlyphs.{sized_first}
use Rattle.job_state.proofs.LoadedFonts.{loaded_first}
use Rattle.job_core.specs.Jobs.{HasWrittenPages, due_bytes, Represents}
use Rattle.job_core.specs.Private.Sound.{IsSound, view_of}
use Rattle.job_core.proofs.FreshDevices.{before_writing, begins, job_has}
use Rattle.job_core.proofs.Moves.{true_or_false}

fresh_before_writing : (bytes_written : Option (List ℕ)) → IfSome bytes_written (λ bytes. bytes ≡ []) → bytes_written ≡ before_writing bytes_written
fresh_before_writing None fresh = refl
fresh_before_writing (Some bytes) fresh = ap Some fresh

-- A new job represents the first machine.
pub new_holds : (files : List NamedBytes) (device : Option (List ℕ)) (kept : JobStateView) (w : Writing) → IfSome device (λ bytes. bytes ≡ []) → before_shipping kept ≡ first_state files
    → HasWritten (first_state files).fonts device w [] → Represents (view_of kept w) (first_machine files)
new_holds files device kept w fresh is written =
    let fonts = (first_state files).fonts in
    let all : HasWrittenPages (view_of kept w) (first_machine files) =
    job_has device (view_of kept w) (first_machine files) (subst (λ before. HasWritten fonts before w []) (fresh_before_writing device fresh) written) in
    record {
      state = ap (λ (x : ProgressView). state_of kept x.load x.pages w.over) written.so_far ∙ (ap (λ over. record (before_shipping kept) { over = over }) written.running ∙ is);
      count = refl;
      written = λ running. all;
      none = λ running. refl;
      held = begins (unfinished_file fonts []) w.bytes_written all.bytes_written;
      sent = λ over. absurd (true_or_false over refl);
      past = keeps_taken w.began w.past (unfinished_file fonts []) (due_bytes (first_machine files)) all.past;
    }

-- The state of a new job is sound.
pub new_sound : (files : List NamedBytes) (kept : JobStateView) → before_shipping kept ≡ first_state files → IsSound (before_shipping kept)
new_sound files kept is = subst IsSound (sym is) (record { fonts = loaded_first files; glyphs = sized_first files })
