-- A job, and the machine that it represents (own).
use Rattle.std.specs.Prelude.{◌≡◌, ◌≢◌, ◌<◌, ◌⊎◌, ◌++◌, [], ◌∷◌, ℕ, false, true, List, length, take, Option, IfSome, Result}
use Rattle.std.specs.List.{AllByRecursion}
use Rattle.job_machine.specs.declared.command.Command.{Command}
use Rattle.job_machine.specs.declared.replies.Refusal.{Refusal}
use Rattle.page_core.specs.declared.summary.Summary.{Summary}
use Rattle.job_machine.specs.Reply.{Reply}
use Rattle.page_core.specs.Marks.{ShippedPage}
use Rattle.dvi_device.specs.Written.{IsFrontOf}
use Rattle.dvi_device.specs.Pasts.{Past, past_after, KeepsPast}
use Rattle.dvi_write.specs.Layout.{unfinished_file, whole}
use Rattle.dvi_write.specs.Shippable.{IsRightPage}
use Rattle.dvi_write.specs.SoFar.{ProgressView, so_far_of}
use Rattle.dvi_write.specs.Writing.{Writing}
use Rattle.job_machine.specs.State.{State}
use Rattle.job_machine.specs.Machine.{Machine}
use Rattle.job_machine.specs.Runs.{StepsTo, Run, Finishes}

-- The view of a job: its state; what its writer keeps of the pages that were sent; and of its device the bytes that it has reported, the number of
-- its failures, its past, and its past when the job was made.
pub record JobView : Type 0 where
  pub state : State
  pub so_far : ProgressView
  pub bytes_written : Option (List ℕ)
  pub failed : ℕ
  pub past : Past
  pub began : Past

-- The writer of a job. Its file is over if and only if the job is.
abbrev pub writing_of : JobView → Writing
writing_of job = record {
  so_far = job.so_far;
  bytes_written = job.bytes_written;
  failed = job.failed;
  past = job.past;
  began = job.began;
  over = job.state.over;
}

-- The bytes are a proper beginning of others: not all of them.
abbrev pub IsProperFrontOf : List ℕ → List ℕ → Type 0
IsProperFrontOf front whole = (n : ℕ) × (n < length whole) × (front ≡ take n whole)

-- What a job that is over has sent. If no page was being sent: the file of its machine's pages or a proper beginning of it. If the device failed in a
-- `ship`: a proper beginning of the file up to the eop of the page of that command.
abbrev pub IsSentPart : Machine → List ℕ → Type 0
IsSentPart m bytes =
    ((m.flight ≡ []) × ((bytes ≡ whole m.state.fonts m.pages) ⊎ IsProperFrontOf bytes (whole m.state.fonts m.pages)))
    ⊎ ((m.flight ≢ []) × IsProperFrontOf bytes (unfinished_file m.state.fonts (m.pages ++ m.flight)))

-- A job has written the machine's pages: its device reports all bytes of them up to the last eop, and no others, and has met as many of the bytes
-- that it was to meet. The writer's numbers are those of these pages.
pub record HasWrittenPages (job : JobView) (m : Machine) : Type 0 where
  pub bytes_written : IfSome job.bytes_written (λ bytes. bytes ≡ unfinished_file m.state.fonts m.pages)
  pub past : job.past ≡ past_after job.began (unfinished_file m.state.fonts m.pages)
  pub so_far : job.so_far ≡ so_far_of m.state.fonts m.pages
  pub right : AllByRecursion (IsRightPage m.state.fonts) m.pages

-- The bytes that a machine with this page being sent gives to its device: the file of its pages; or, up to its eop, the file with that page.
abbrev pub due_with : Machine → (flight : List ShippedPage) → List ℕ
due_with m [] = whole m.state.fonts m.pages
due_with m (page ∷ more) = unfinished_file m.state.fonts (m.pages ++ page ∷ more)

-- All bytes that a machine gives to its device.
abbrev pub due_bytes : Machine → List ℕ
due_bytes m = due_with m m.flight

-- A job represents a machine: it has the machine's state, and until it is over it has written the machine's pages. Once the job is over, its device
-- reports the file of the pages or a beginning of it, or a beginning of the file with the page that was being sent. Whatever failed, the reported
-- bytes begin with all bytes of the machine's pages. In the job the device has no failure of its own; or one, and the machine's bytes differ from
-- those that it was to meet.
pub record Represents (job : JobView) (m : Machine) : Type 0 where
  pub state : job.state ≡ m.state
  pub count : m.state.pages ≡ length m.pages
  pub written : m.state.over ≡ false → HasWrittenPages job m
  pub none : m.state.over ≡ false → m.flight ≡ []
  pub held : IfSome job.bytes_written (λ bytes. IsFrontOf (unfinished_file m.state.fonts m.pages) bytes)
  pub sent : m.state.over ≡ true → IfSome job.bytes_written (IsSentPart m)
  pub past : KeepsPast job.began (due_bytes m) job.past

-- Each machine that the job represented has stepped to one that it represents.
abbrev pub KeepsTo : JobView → Command → Reply → JobView → Type 0
KeepsTo old command reply new = (m : Machine) → Represents old m → (next : Machine) × StepsTo m old.failed command reply next new.failed
    × Represents new next

-- Each machine that the job represented has run to one that it represents.
abbrev pub RunsTo : JobView → List Command → List Reply → JobView → Type 0
RunsTo old commands replies new = (m : Machine) → Represents old m → (next : Machine) × Run m old.failed commands replies next new.failed
    × Represents new next

-- Each machine that the job represented is finished as one that it represents.
abbrev pub FinishesTo : JobView → Result Summary Refusal → JobView → Type 0
FinishesTo old result new = (m : Machine) → Represents old m → (next : Machine) × Finishes m old.failed result next new.failed × Represents new next
