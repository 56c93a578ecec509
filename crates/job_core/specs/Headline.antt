-- A job from its beginning to its end (own).
use Rattle.std.specs.Prelude.{◌≡◌, ℕ, List, length, map, Option, Result, IfOk, OnOk, IfSome}
use Rattle.dvi_ops.specs.Fonts.{WidthsByName}
use Rattle.dvi_ops.specs.File.{IsFileOfPages}
use Rattle.page_core.specs.Marks.{read_page}
use Rattle.job_machine.specs.declared.command.Command.{Command}
use Rattle.job_machine.specs.declared.replies.Refusal.{Refusal}
use Rattle.page_core.specs.declared.summary.Summary.{Summary}
use Rattle.job_machine.specs.Reply.{Reply}
use Rattle.tfm_core.specs.NamedBytes.{NamedBytes}
use Rattle.job_machine.specs.Machine.{Machine, first_machine}
use Rattle.job_machine.specs.Runs.{Run, Finishes}
use Rattle.job_core.specs.Jobs.{JobView}
use Rattle.job_core.specs.Sent.{WasSent}
use Rattle.job_core.specs.Shown.{GivesFiles}

-- A new job with these font files ran these commands with these replies, and was then ended with this result. The device had failed n times before
-- and k times after, and then reports these bytes, or reports nothing.
pub record WasRun (files : List NamedBytes) (n : ℕ) (commands : List Command) (replies : List Reply) (end : Result Summary Refusal) (k : ℕ)
    (bytes_written : Option (List ℕ)) : Type 0 where
  -- The replies are a run of the machine from its first state, one for each command.
  pub middle : Machine
  pub failed : ℕ
  pub ran : Run (first_machine files) n commands replies middle failed
  -- The result is an end of that machine.
  pub last : Machine
  pub finished : Finishes middle failed end last k
  -- If the end succeeds and the device reports its bytes, they are a DVI file of exactly the pages of that machine, in order, with the widths that
  -- the font files give. The summary has their number.
  pub dvi : (metrics : WidthsByName) → GivesFiles metrics files
      → OnOk end (IfSome bytes_written (λ bytes. IsFileOfPages metrics bytes (map read_page middle.pages)))
  pub size : IfOk end (λ summary. IfSome bytes_written (λ bytes. summary.bytes ≡ length bytes))

-- The same, and what its device then reports by the rules of this writer.
abbrev pub WasRunAndSent : (files : List NamedBytes) → (n : ℕ) → (commands : List Command) → (replies : List Reply) → Result Summary Refusal
    → (k : ℕ) → (bytes_written : Option (List ℕ)) → Type 0
WasRunAndSent files n commands replies end k bytes_written =
    (run : WasRun files n commands replies end k bytes_written) × WasSent run.middle run.last end bytes_written

-- A job that was new with these files has run the commands with these replies, and was ended with this result.
pub record IsDone (files : List NamedBytes) (commands : List Command) (replies : List Reply) (result : Result Summary Refusal)
    (new run ended : JobView) : Type 0 where
  pub job : WasRun files new.failed commands replies result ended.failed ended.bytes_written
  -- Before the end the job has the state of that machine, and after it the state of the machine that has ended.
  pub state : run.state ≡ job.middle.state
  pub over : ended.state ≡ job.last.state
  -- The device had failed as often before the end as the run of that machine counts.
  pub failed : run.failed ≡ job.failed
  pub sent : WasSent job.middle job.last result ended.bytes_written
