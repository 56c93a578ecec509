-- Sessions: a script that is run as it comes (own).
use Rattle.std.specs.Prelude.{◌≡◌, ◌≢◌, ◌⊎◌, ◌≤◌, ◌<◌, ◌+◌, ◌++◌, ◌&&◌, ℕ, Bool, true, false, List, [], ◌∷◌, length, Option, Result}
use Rattle.std.specs.List.{list_all, Contains}
use Rattle.std.specs.Str.Lines.{lines}
use Rattle.std.specs.Io.KnownBytes.{Appends, Keeps}
use Rattle.job_machine.specs.declared.command.Command.{Command as ACommand}
use Rattle.job_machine.specs.declared.replies.Refusal.{Refusal}
use Rattle.page_core.specs.declared.summary.Summary.{Summary}
use Rattle.job_machine.specs.Reply.{Reply}
use Rattle.std.specs.Prelude.{is_ok}
use Rattle.tfm_core.specs.NamedBytes.{NamedBytes}
use Rattle.dvi_write.specs.Writing.{GoesOn}
use Rattle.job_machine.specs.Machine.{Machine, first_machine}
use Rattle.job_machine.specs.Runs.{Run}
use Rattle.job_core.specs.Headline.{WasRun, WasRunAndSent}
use Rattle.job_core.specs.Jobs.{JobView, Represents, RunsTo, writing_of}
use Rattle.boxglue_script.specs.declared.line_content.LineContent.{LineContent}
use Rattle.boxglue_script.specs.declared.line_content.LineContent.TheVariants.{Nothing, Command, Bad}
use Rattle.boxglue_script.specs.LineContents.{SayEach, IsWhole, lines_of_contents, has_no_bad}
use Rattle.boxglue_program.specs.Reports.{Reports}
use Rattle.boxglue_program.specs.Texts.{answer_line, script_refusal_text, end_line}
use Rattle.boxglue_program.specs.Runs.{commands_of, is_accepted, IsUntouched, WritesFront}

-- The answers to lines, of which the first has this number: a line for each command, and one for each bad line.
abbrev pub session_text : ℕ → List LineContent → List Reply → List ℕ
session_text number [] replies = []
session_text number (Nothing ∷ more) replies = session_text (number + 1) more replies
session_text number (Bad cause ∷ more) replies = script_refusal_text number cause ++ session_text (number + 1) more replies
session_text number (Command command ∷ more) [] = session_text (number + 1) more []
session_text number (Command command ∷ more) (reply ∷ replies) = answer_line number reply ++ session_text (number + 1) more replies

-- Whether nothing was refused, neither a line nor a command.
abbrev pub are_accepted : List LineContent → List Reply → Bool
are_accepted contents replies = has_no_bad contents && list_all is_ok replies

-- A text was sent to a client that reads, or does not read any longer. All of it went out; or a beginning of it, and the client does not read any
-- longer.
abbrev pub IsSent : (read reads : Bool) → (old new : Option (List ℕ)) → List ℕ → Type 0
IsSent true true old new text = Appends old new text
IsSent true false old new text = WritesFront old new text
IsSent false true old new text = ⊥
IsSent false false old new text = Keeps old new

-- A job, how many lines of its input were run, and whether nothing was refused.
pub record DialogView : Type 0 where
  pub job : JobView
  pub lines : ℕ
  pub accepted : Bool

-- Lines were run, and these are their answers.
pub record AnswersLines (old : DialogView) (all : List (List ℕ)) (answers : List ℕ) (new : DialogView) : Type 0 where
  pub contents : List LineContent
  pub replies : List Reply
  pub says : SayEach all contents
  pub ran : RunsTo old.job (commands_of (lines_of_contents (old.lines + 1) contents)) replies new.job
  pub each : length replies ≡ length (lines_of_contents (old.lines + 1) contents)
  pub answers_are : answers ≡ session_text (old.lines + 1) contents replies
  pub counted : new.lines ≡ old.lines + length all
  pub accepted : new.accepted ≡ (old.accepted && are_accepted contents replies)
  pub goes_on : GoesOn (writing_of old.job) (writing_of new.job)

-- A job was finished with this end: what a new job had run up to then was run whole.
abbrev pub EndsRun : JobView → Result Summary Refusal → (k : ℕ) → (bytes_written : Option (List ℕ)) → Type 0
EndsRun job end k bytes_written =
    (files : List NamedBytes) (first : JobView) (commands : List ACommand) (replies : List Reply) → Represents first (first_machine files)
    → RunsTo first commands replies job
    → WasRunAndSent files first.failed commands replies end k bytes_written

-- What contracts see of a session: its dialog; whether the client reads; the bytes after the last line feed; and how many bytes may still be read.
pub record SessionView : Type 0 where
  pub dialog : DialogView
  pub reads : Bool
  pub partial_line : List ℕ
  pub left : ℕ

-- One reading brought a piece. The lines that end in it were run, and their answers were sent. What follows the last line feed is kept.
pub record Exchanges (old : SessionView) (piece : List ℕ) (new : SessionView) (before after : Option (List ℕ)) : Type 0 where
  pub whole : List ℕ
  pub split : old.partial_line ++ piece ≡ whole ++ new.partial_line
  pub ends : IsWhole whole
  pub rest : Contains new.partial_line 10 → ⊥
  pub answers : List ℕ
  pub ran : AnswersLines old.dialog (lines whole) answers new.dialog
  pub sent : IsSent old.reads new.reads before after answers
  pub left : new.left + length piece ≡ old.left

-- Some lines of a text were run, and these are their answers. Nothing of what follows them was run or counted.
pub record StopsIn (text : List ℕ) (old : DialogView) (answers : List ℕ) (new : DialogView) : Type 0 where
  pub whole : List ℕ
  pub rest : List ℕ
  pub split : text ≡ whole ++ rest
  pub ends : IsWhole whole ⊎ (rest ≡ [])
  pub ran : AnswersLines old (lines whole) answers new

-- Memory was refused after a piece was read. Only whole lines were run. What was not run is lost, with the bytes that were kept.
pub record LacksMemory (old : SessionView) (piece : List ℕ) (new : SessionView) (before after : Option (List ℕ)) : Type 0 where
  pub answers : List ℕ
  pub stops : StopsIn (old.partial_line ++ piece) old.dialog answers new.dialog
  pub whole : IsWhole stops.whole
  pub sent : IsSent old.reads new.reads before after answers
  pub partial_line : new.partial_line ≡ []
  pub left : new.left + length piece ≡ old.left

-- A session that was begun with these font files on a device that had failed n times.
pub record IsNewSession (files : List NamedBytes) (n : ℕ) (new : SessionView) : Type 0 where
  pub represents : Represents new.dialog.job (first_machine files)
  pub failed : new.dialog.job.failed ≡ n
  pub lines : new.dialog.lines ≡ 0
  pub accepted : new.dialog.accepted ≡ true
  pub reads : new.reads ≡ true
  pub partial_line : new.partial_line ≡ []

-- A session came to the end of its input: a last line without a line feed was run, and the job was finished. The device of the job failed k times and
-- reports these bytes. This is the text of the last answers, and whether nothing was refused in the whole session.
pub record EndsSession (old : SessionView) (k : ℕ) (bytes_written : Option (List ℕ)) (answer : List ℕ) (accepted : Bool) : Type 0 where
  pub answers : List ℕ
  pub middle : DialogView
  pub ran : AnswersLines old.dialog (lines old.partial_line) answers middle
  pub end : Result Summary Refusal
  pub run : EndsRun middle.job end k bytes_written
  pub answer_is : answer ≡ answers ++ end_line end
  pub accepted_is : accepted ≡ (middle.accepted && is_ok end)

-- The whole input was run, and the job was finished. This is the text of all answers, and whether nothing was refused.
pub record RanSession (reports : Reports) (text : List ℕ) (files : List NamedBytes) (n k : ℕ) (bytes_written : Option (List ℕ))
    (answer : List ℕ) (accepted : Bool) : Type 0 where
  pub contents : List LineContent
  pub replies : List Reply
  pub end : Result Summary Refusal
  pub says : SayEach (lines text) contents
  pub run : WasRun files n (commands_of (lines_of_contents 1 contents)) replies end k bytes_written
  pub sent : reports.HasEnded run.middle run.last end bytes_written
  pub answer_is : answer ≡ session_text 1 contents replies ++ end_line end
  pub accepted_is : accepted ≡ (has_no_bad contents && is_accepted replies end)

-- A session stopped: the lines of a beginning of its input were run and answered, and nothing else was run. The job was not finished.
pub record StoppedSession (reports : Reports) (text : List ℕ) (files : List NamedBytes) (n k : ℕ) (bytes_written : Option (List ℕ))
    (answer : List ℕ) : Type 0 where
  pub whole : List ℕ
  pub rest : List ℕ
  pub split : text ≡ whole ++ rest
  pub ends : IsWhole whole ⊎ (rest ≡ [])
  pub contents : List LineContent
  pub replies : List Reply
  pub says : SayEach (lines whole) contents
  pub machine : Machine
  pub ran : Run (first_machine files) n (commands_of (lines_of_contents 1 contents)) replies machine k
  pub sent : reports.HasStopped machine bytes_written
  pub answer_is : answer ≡ session_text 1 contents replies

-- Memory was refused: before anything was run, or later. A line without a line feed was run only at the end of the input, and AtEnd says that this
-- text is the whole input.
abbrev pub LacksSessionMemory : Reports → (AtEnd : Type 0) → (text : List ℕ) → (files : List NamedBytes) → (n k : ℕ)
    → (bytes_written : Option (List ℕ)) → (answer : List ℕ) → Type 0
LacksSessionMemory reports AtEnd text files n k bytes_written answer =
    (IsUntouched n k bytes_written × (text ≡ []) × (answer ≡ []))
    ⊎ ((stopped : StoppedSession reports text files n k bytes_written answer) × (IsWhole stopped.whole ⊎ AtEnd))

-- What was read of an input before a reading failed, and what was lost by it: nothing, or one piece that is over the limit.
pub record IsUnreadable (limit : ℕ) (text lost : List ℕ) : Type 0 where
  pub within : length text ≤ limit
  pub piece : length lost ≤ 65536
  pub over : lost ≢ [] → limit < length text + length lost

-- A session stopped at the end of what could be read: all whole lines of it were run and answered. A line that was cut off was not run.
abbrev pub IsCutOff : Reports → (text : List ℕ) → (files : List NamedBytes) → (n k : ℕ) → (bytes_written : Option (List ℕ)) → (answer : List ℕ)
    → Type 0
IsCutOff reports text files n k bytes_written answer =
    (stopped : StoppedSession reports text files n k bytes_written answer) × IsWhole stopped.whole × (Contains stopped.rest 10 → ⊥)
