-- The abstract machine: its reply to a command, and its state and pages after it (own; after TeX: The Program, parts 16, 32, 33 and 47).
use Rattle.std.specs.Prelude.{◌++◌, [], true, List, Option, Some, None, Ok, Err}
use Rattle.job_machine.specs.declared.command.Command.{Command}
use Rattle.job_machine.specs.declared.replies.Answer.{Answer}
use Rattle.job_machine.specs.declared.replies.Refusal.{Refusal}
use Rattle.job_machine.specs.Reply.{Reply}
use Rattle.page_core.specs.Marks.{ShippedPage}
use Rattle.tfm_core.specs.NamedBytes.{NamedBytes}
use Rattle.job_machine.specs.State.{State, first_state}
use Rattle.job_machine.specs.Checks.{first_refusal, checks}
use Rattle.job_machine.specs.Answers.{answer_of}
use Rattle.job_machine.specs.Effects.{state_after_command, new_pages}

-- The reply to a command: the first refusal whose condition holds, or the answer.
abbrev pub reply_by : Option Refusal → Answer → Reply
reply_by None answer = Ok answer
reply_by (Some refusal) answer = Err refusal

-- The reply of a job in that state to a command.
abbrev pub reply_to : State → Command → Reply
reply_to m command = reply_by (first_refusal (checks m command)) (answer_of m command)

-- The old value where a command is refused, and the new one where it is accepted.
abbrev pub state_by : {A : Type 0} → Option Refusal → A → A → A
state_by None old new = new
state_by (Some refusal) old new = old

-- The state after a command. A refused command leaves it unchanged.
abbrev pub state_after : State → Command → State
state_after m command = state_by (first_refusal (checks m command)) m (state_after_command m command)

-- The machine: a state; the pages that were shipped, in order; and, where the device failed in a `ship`, the page that was being sent.
pub record Machine : Type 0 where
  pub state : State
  pub pages : List ShippedPage
  pub flight : List ShippedPage

-- The machine of a new job with these font files.
abbrev pub first_machine : List NamedBytes → Machine
first_machine files = record { state = first_state files; pages = []; flight = [] }

-- The machine after a command.
abbrev pub step : Machine → Command → Machine
step m command =
    record {
      state = state_after m.state command;
      pages = state_by (first_refusal (checks m.state command)) m.pages (m.pages ++ new_pages m.state command);
      flight = m.flight;
    }

-- The machine after its job has ended.
abbrev pub stopped_machine : Machine → Machine
stopped_machine m = record m { state = record (m.state) { over = true } }

-- The machine after the device failed in a command: the job is over, and the page of this command was being sent.
abbrev pub lost_machine : Machine → Command → Machine
lost_machine m command = record (stopped_machine m) { flight = new_pages m.state command }
