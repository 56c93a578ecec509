-- What the device of a job reports after its end, by the rules by which this writer lays out a file (own).
use Rattle.std.specs.Prelude.{◌≡◌, ◌≢◌, [], ℕ, true, false, List, length, Option, Result, Err, IfOk, OnOk, IfSome}
use Rattle.dvi_device.specs.Written.{IsFrontOf}
use Rattle.dvi_write.specs.Closing.{IsClosedFor}
use Rattle.dvi_write.specs.Layout.{unfinished_file, whole}
use Rattle.job_machine.specs.declared.replies.Refusal.{Refusal}
use Rattle.job_machine.specs.declared.replies.Refusal.TheVariants as refusals
use Rattle.page_core.specs.declared.summary.Summary.{Summary}
use Rattle.job_machine.specs.Machine.{Machine}
use Rattle.job_core.specs.Jobs.{IsProperFrontOf, IsSentPart}

-- The device of a job reports these bytes after an end with this result. The machine of the job was `middle` before the end, and is `last` after it.
pub record WasSent (middle last : Machine) (end : Result Summary Refusal) (bytes_written : Option (List ℕ)) : Type 0 where
  -- If the end succeeds, they are the file that this writer lays out. The summary has its length, even if the device does not report.
  pub file : OnOk end (IfSome bytes_written (λ bytes. bytes ≡ whole middle.state.fonts middle.pages))
  pub count : IfOk end (λ summary. summary.bytes ≡ length (whole middle.state.fonts middle.pages))
  -- That file ends as a file of these pages does, and each font that it defines is the machine's font in the slot of its number.
  pub closed : middle.pages ≢ [] → OnOk end (IfSome bytes_written (λ bytes. IsClosedFor middle.state.fonts bytes middle.pages))
  -- If the job is not over, because its end was refused, they are the bytes of all pages that were shipped.
  pub sent : last.state.over ≡ false → IfSome bytes_written (λ bytes. bytes ≡ unfinished_file last.state.fonts last.pages)
  -- Whatever failed, they begin with all bytes of the pages that were shipped.
  pub held : IfSome bytes_written (λ bytes. IsFrontOf (unfinished_file last.state.fonts last.pages) bytes)
  -- If the device failed in the end, they are a proper beginning of the file.
  pub front : end ≡ Err refusals.Device → IfSome bytes_written (λ bytes. IsProperFrontOf bytes (whole middle.state.fonts middle.pages))
  -- If the job is over, whatever failed, they are that file or a beginning of it. If the device failed in a `ship`, they are a beginning of the file
  -- with the page of that command.
  pub part : last.state.over ≡ true → IfSome bytes_written (IsSentPart last)
