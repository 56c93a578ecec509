-- What the calls on a kept job do (own).
use Rattle.std.specs.Prelude.{◌≡◌, ◌≢◌, ◌<◌, ◌⊎◌, ◌^◌, ◌++◌, ℕ, true, List, [], length, drop, Result, Err, OnOk, IfOk, IfErr, IfSome}
use Rattle.job_machine.specs.declared.replies.Refusal.{Refusal}
use Rattle.job_machine.specs.declared.replies.Refusal.TheVariants as refusals
use Rattle.page_core.specs.declared.summary.Summary.{Summary}
use Rattle.job_machine.specs.Reply.{Reply}
use Rattle.dvi_write.specs.Layout.{whole}
use Rattle.job_machine.specs.Machine.{Machine}
use Rattle.dvi_write.specs.Writing.{GoesOn}
use Rattle.job_core.specs.Jobs.{Represents, RunsTo, FinishesTo, IsProperFrontOf, writing_of}
use Rattle.job_core.specs.Shown.{FilesPages}
use Rattle.job_core.specs.Closing.{ClosesFile}
use Rattle.boxglue_script.specs.declared.cause.Cause.{Cause}
use Rattle.boxglue_script.specs.declared.script.Line.{Line}
use Rattle.boxglue_script.specs.Script.{IsScript, IsFirstBad}
use Rattle.boxglue_program.specs.Runs.{commands_of, line_numbers}
use Rattle.boxglue_program.specs.Texts.{answer_lines, end_line, script_refusal_text}
use Rattle.boxglue_calls.specs.Buffers.{HandsOver}
use Rattle.boxglue_calls.specs.RunStatus.{replies_status, reply_status}
use Rattle.boxglue_calls.specs.Jobs.{KeptState, sent_by}
use Rattle.boxglue_calls.specs.Numbers.{number_after, numbered_lines, line_count}

-- A text becomes the last of the answers, and the status is this one; or memory was refused for it: the answers are as they were, and the status
-- is 10.
abbrev pub Answers : (old new text : List ℕ) → (done status : ℕ) → Type 0
Answers old new text done status = ((new ≡ old ++ text) × (status ≡ done)) ⊎ ((new ≡ old) × (status ≡ 10))

-- The lines of a piece of a script were run, with these replies. A job that is over stays as it was, and the bytes that were sent stand.
pub record RunsLines (old : KeptState) (script : List ℕ) (new : KeptState) : Type 0 where
  pub lines : List Line
  pub replies : List Reply
  pub piece : IsScript script lines
  pub ran : RunsTo old.job (commands_of lines) replies new.job
  pub idle : old.job.state.over ≡ true → new.job ≡ old.job
  pub goes_on : GoesOn (writing_of old.job) (writing_of new.job)
  pub each : length replies ≡ length lines
  pub counted : new.lines ≡ number_after old.lines (line_count script)
  pub taken : new.taken ≡ old.taken

-- A piece of a script was run and answered. Its lines are numbered after those of the pieces before it.
pub record RunsPiece (old : KeptState) (script : List ℕ) (new : KeptState) (status : ℕ) : Type 0 where
  pub run : RunsLines old script new
  pub answered : Answers old.answers new.answers (answer_lines (line_numbers (numbered_lines old.lines run.lines)) run.replies)
      (replies_status run.replies) status

-- A piece is bad: its one line becomes the last of the answers, nothing else changes, and the status is 1.
pub record RefusesPiece (old : KeptState) (script : List ℕ) (new : KeptState) (status : ℕ) : Type 0 where
  pub number : ℕ
  pub cause : Cause
  pub bad : IsFirstBad script number cause
  pub new_is : new ≡ record old { answers = old.answers ++ script_refusal_text (number_after old.lines number) cause }
  pub status_is : status ≡ 1

-- A piece of a script was run; or is bad; or memory was refused before anything was run: nothing changed, and the status is 2.
abbrev pub DoesCommands : (script : List ℕ) → (old new : KeptState) → (status : ℕ) → Type 0
DoesCommands script old new status = RunsPiece old script new status ⊎ RefusesPiece old script new status ⊎ ((new ≡ old) × (status ≡ 2))

-- The answers are handed over, and are no longer kept; or the buffer is too small, and nothing changes. The size is that of the answers.
pub record HandsAnswers (text_old text_new : List ℕ) (size : ℕ) (old new : KeptState) (status : ℕ) : Type 0 where
  pub handed : HandsOver text_old text_new old.answers 0 status
  pub size_is : size ≡ length old.answers
  pub given : status ≡ 0 → new ≡ record old { answers = [] }
  pub same : status ≡ 4 → new ≡ old

-- The bytes that were sent after those that were handed over are handed over; or the buffer is too small, and nothing changes. The size is that of
-- these bytes.
pub record HandsBytes (dvi_old dvi_new : List ℕ) (size : ℕ) (old new : KeptState) (status : ℕ) : Type 0 where
  pub handed : HandsOver dvi_old dvi_new (drop old.taken (sent_by old.job)) 0 status
  pub size_is : size ≡ length (drop old.taken (sent_by old.job))
  pub given : status ≡ 0 → new ≡ record old { taken = length (sent_by old.job) }
  pub same : status ≡ 4 → new ≡ old

-- The job was finished, or its end was refused, as `Job::finish` says.
pub record EndsJob (old new : KeptState) : Type 0 where
  pub end : Result Summary Refusal
  pub finished : FinishesTo old.job end new.job
  pub same : IfErr end (λ refusal. refusal ≢ refusals.Device → new.job ≡ old.job)
  pub idle : old.job.state.over ≡ true → new.job ≡ old.job
  pub dvi : FilesPages old.job end new.job
  pub closed : ClosesFile old.job end new.job
  pub file : (m : Machine) → Represents old.job m → OnOk end (IfSome new.job.bytes_written (λ bytes. bytes ≡ whole m.state.fonts m.pages))
  pub size : IfOk end (λ summary. (m : Machine) → Represents old.job m → IfSome new.job.bytes_written (λ bytes. summary.bytes ≡ length bytes))
  pub count : IfOk end (λ summary. (m : Machine) → Represents old.job m → summary.bytes ≡ length (whole m.state.fonts m.pages))
  pub small : IfOk end (λ summary. summary.bytes < 2 ^ 31)
  pub part : end ≡ Err refusals.Device → (m : Machine) → Represents old.job m
      → IfSome new.job.bytes_written (λ bytes. IsProperFrontOf bytes (whole m.state.fonts m.pages))
  pub goes_on : GoesOn (writing_of old.job) (writing_of new.job)
  pub lines : new.lines ≡ old.lines
  pub taken : new.taken ≡ old.taken

-- The job was finished, or its end was refused, and this was answered.
pub record FinishesKept (old new : KeptState) (status : ℕ) : Type 0 where
  pub ended : EndsJob old new
  pub answered : Answers old.answers new.answers (end_line ended.end) (reply_status ended.end) status
