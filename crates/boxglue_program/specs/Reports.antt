-- What is said of the bytes that the device of a run reports, beside that they are a file of its machine's pages (own).
use Rattle.std.specs.Prelude.{◌≡◌, ℕ, List, Option, Result}
use Rattle.job_machine.specs.declared.replies.Refusal.{Refusal}
use Rattle.page_core.specs.declared.summary.Summary.{Summary}
use Rattle.job_machine.specs.Machine.{Machine}
use Rattle.dvi_device.specs.Pasts.{Past, KeepsPast}
use Rattle.job_core.specs.Jobs.{JobView, Represents, due_bytes}
use Rattle.job_core.specs.Sent.{WasSent}

-- What is said: of the bytes after the end of a job, by its machine before and after the end and the result; of the bytes of a job that was not
-- ended, by its machine; and of the past of the device before and after, by the last machine.
pub record Reports : Type 1 where
  pub HasEnded : (middle last : Machine) → Result Summary Refusal → (bytes_written : Option (List ℕ)) → Type 0
  pub HasStopped : Machine → (bytes_written : Option (List ℕ)) → Type 0
  pub HasMet : (last : Machine) → (before after : Past) → Type 0

-- Nothing is said.
abbrev pub any_bytes : Reports
any_bytes = record {
  HasEnded = λ middle last end bytes_written. Unit {0};
  HasStopped = λ machine bytes_written. Unit {0};
  HasMet = λ last before after. Unit {0};
}

-- A job that represents this machine was not ended, and its device reports these bytes.
pub record IsStoppedJob (machine : Machine) (bytes_written : Option (List ℕ)) : Type 0 where
  pub job : JobView
  pub holds : Represents job machine
  pub bytes_written_is : bytes_written ≡ job.bytes_written

-- What the rules of this writer say: which bytes went out, whatever failed; and if the device has one more failure of its own, the bytes of the run
-- differ from those that it was to meet.
abbrev pub written_bytes : Reports
written_bytes = record { HasEnded = WasSent; HasStopped = IsStoppedJob; HasMet = λ last before after. KeepsPast before (due_bytes last) after }
