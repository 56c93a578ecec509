-- The view of a job by its state and its writer, and what holds of its state and its file (own; the model and the invariant of
-- `Job`, and private calls).
use Rattle.std.specs.Prelude.{ℕ, List, Option}
use Rattle.page_core.specs.Marks.{ShippedPage}
use Rattle.job_machine.specs.declared.replies.Refusal.{Refusal}
use Rattle.job_machine.specs.declared.replies.Refusal.TheVariants as refusals
use Rattle.dvi_write.specs.declared.fault.WriteFault.{WriteFault}
use Rattle.dvi_write.specs.declared.fault.WriteFault.TheVariants.{JobOver, TooManyPages, TooMuchShipped, TooMuchSpecial, HugePage, OutOfMemory}
use Rattle.dvi_write.specs.declared.fault.WriteFault.TheVariants.{Device}
use Rattle.tfm_core.specs.Slots.{Slots}
use Rattle.dvi_write.specs.Limits.{IsWithinLimits}
use Rattle.dvi_write.specs.Writing.{Writing, HasWritten}
use Rattle.job_machine.specs.State.{State}
use Rattle.job_state.specs.JobStateView.{JobStateView, state_of}
use Rattle.job_state.specs.Private.Sized.{HasSizedGlyphs}
use Rattle.job_state.specs.Private.Loaded.{AreLoaded}
use Rattle.job_core.specs.Jobs.{JobView}

-- The view of a job with this state and this writer. The writer alone keeps how much was sent, and whether the job is over.
abbrev pub view_of : JobStateView → Writing → JobView
view_of kept w =
    record {
      state = state_of kept w.so_far.load w.so_far.pages w.over;
      so_far = w.so_far;
      bytes_written = w.bytes_written;
      failed = w.failed;
      past = w.past;
      began = w.began;
    }

-- Fonts and glyphs are those of the font files.
pub record IsSound (s : State) : Type 0 where
  pub fonts : AreLoaded s.files s.fonts
  pub glyphs : HasSizedGlyphs s

-- The file of a job that is not over is within the limits: its writer has written some pages, and the numbers that it keeps of them have space.
pub record IsBoundedFile (fonts : Slots) (w : Writing) : Type 0 where
  pub space : IsWithinLimits w.so_far
  pub before : Option (List ℕ)
  pub pages : List ShippedPage
  pub written : HasWritten fonts before w pages

-- The refusal of a job if its writer does not take a page.
abbrev pub write_refusal : WriteFault → Refusal
write_refusal JobOver = refusals.JobOver
write_refusal TooManyPages = refusals.TooManyPages
write_refusal TooMuchShipped = refusals.TooMuchShipped
write_refusal TooMuchSpecial = refusals.TooMuchSpecial
write_refusal HugePage = refusals.HugePage
write_refusal OutOfMemory = refusals.OutOfMemory
write_refusal Device = refusals.Device
