-- Runs of a script, and what is written of them (own).
use Rattle.std.specs.Prelude.{◌≡◌, ◌≢◌, ◌<◌, ◌+◌, ◌⊎◌, ◌&&◌, ◌++◌, ℕ, Bool, false, List, [], length, map, take, drop, codes, Option, Some}
use Rattle.std.specs.Prelude.{IfSome, Result, Err, IfErr, OnOk, is_ok}
use Rattle.std.specs.List.{list_all, AllByRecursion}
use Rattle.std.specs.Io.KnownBytes.{Appends, Keeps}
use Rattle.job_machine.specs.declared.command.Command.{Command}
use Rattle.job_machine.specs.declared.replies.Refusal.{Refusal}
use Rattle.job_machine.specs.declared.replies.Refusal.TheVariants as refusals
use Rattle.page_core.specs.declared.summary.Summary.{Summary}
use Rattle.job_machine.specs.Reply.{Reply}
use Rattle.tfm_core.specs.NamedBytes.{NamedBytes}
use Rattle.dvi_device.specs.Written.{written_then, IsFrontOf}
use Rattle.dvi_device.specs.Pasts.{Differs}
use Rattle.dvi_device.specs.Seen.{DeviceView, device_view}
use Rattle.dvi_device.specs.Resumed.{PassesOn}
use Rattle.dvi_write.specs.Layout.{whole}
use Rattle.job_core.specs.Headline.{WasRun}
use Rattle.job_core.specs.Jobs.{due_bytes}
use Rattle.dvi_device.specs.Held.{MemoryState, new_memory}
use Rattle.job_machine.specs.Machine.{Machine, first_machine}
use Rattle.job_machine.specs.Runs.{Run, Finishes}
use Rattle.boxglue_script.specs.declared.cause.Cause.{Cause}
use Rattle.boxglue_script.specs.declared.script.Line.{Line}
use Rattle.boxglue_program.specs.declared.run.RunFault.{RunFault}
use Rattle.boxglue_program.specs.declared.run.RunFault.TheVariants.{Memory, Answers}
use Rattle.boxglue_script.specs.Script.{IsScript, IsFirstBad}
use Rattle.boxglue_program.specs.Reports.{Reports, written_bytes}
use Rattle.boxglue_program.specs.Texts.{answers_text, script_refusal_text, hexadecimal_text}

-- The commands of some lines.
abbrev pub commands_of : List Line → List Command
commands_of lines = map (λ line. line.command) lines

-- The numbers of some lines.
abbrev pub line_numbers : List Line → List ℕ
line_numbers lines = map (λ line. line.number) lines

-- Nothing was refused.
abbrev pub is_accepted : List Reply → Result Summary Refusal → Bool
is_accepted replies end = list_all is_ok replies && is_ok end

-- A script was run, and this is the text of its answers. `reports` says more of the bytes that the device reports, or nothing.
pub record RanScript (reports : Reports) (text : List ℕ) (files : List NamedBytes) (n k : ℕ) (bytes_written : Option (List ℕ))
    (answer : List ℕ) (fine : Bool) : Type 0 where
  pub lines : List Line
  pub replies : List Reply
  pub end : Result Summary Refusal
  pub script : IsScript text lines
  pub run : WasRun files n (commands_of lines) replies end k bytes_written
  pub sent : reports.HasEnded run.middle run.last end bytes_written
  pub answer_is : answer ≡ answers_text (line_numbers lines) replies end
  pub fine_is : fine ≡ is_accepted replies end

-- A script is bad, and this is its one line.
pub record RefusedScript (text answer : List ℕ) (fine : Bool) : Type 0 where
  pub number : ℕ
  pub cause : Cause
  pub bad : IsFirstBad text number cause
  pub answer_is : answer ≡ script_refusal_text number cause
  pub fine_is : fine ≡ false

-- The fault of a run, with its device as contracts see it.
abbrev pub fault_view : {D : Type 0} → (D → DeviceView D) → RunFault D → RunFault (DeviceView D)
fault_view seen (Memory back) = Memory (seen back)
fault_view seen (Answers back) = Answers (seen back)

-- A script was run on a device.
pub record RanOn {D : Type 0} (reports : Reports) (text : List ℕ) (files : List NamedBytes) (device back : DeviceView D) (answer : List ℕ)
    (fine : Bool) : Type 0 where
  pub ran : RanScript reports text files device.failed back.failed back.bytes_written answer fine
  pub past : reports.HasMet ran.run.last device.past back.past

-- The answer to a script, and the device after it: the answers and the device on which the script was run; or the one line and the device as it was.
abbrev pub IsAnswered : {D : Type 0} → Reports → List ℕ → List NamedBytes → (device back : DeviceView D) → (answer : List ℕ) → (fine : Bool)
    → Type 0
IsAnswered reports text files device back answer fine =
    RanOn reports text files device back answer fine ⊎ (RefusedScript text answer fine × (back ≡ device))

-- Memory was refused for the answer to a script: nothing was run and the device is as it was, or the whole script was run on it.
abbrev pub IsUnanswered : {D : Type 0} → Reports → List ℕ → List NamedBytes → (device back : DeviceView D) → Type 0
IsUnanswered reports text files device back =
    (back ≡ device) ⊎ ((answer : List ℕ) × (fine : Bool) × RanOn reports text files device back answer fine)

-- A device that has reported no byte and failed as often as before: nothing was run on it.
pub record IsUntouched (n k : ℕ) (bytes_written : Option (List ℕ)) : Type 0 where
  pub silent : IfSome bytes_written (λ bytes. bytes ≡ [])
  pub failed_is : k ≡ n

-- What was written is a beginning of a text, and not all of it.
abbrev pub WritesFront : (old new : Option (List ℕ)) → List ℕ → Type 0
WritesFront old new text = (count : ℕ) × (count < length text) × Appends old new (take count text)

-- What is known if a run failed: memory was refused, and nothing was written; or the writer took a beginning of the answer, once, and not all of it.
abbrev pub IsLeft : {D : Type 0} → Reports → List ℕ → List NamedBytes → (device : DeviceView D) → RunFault (DeviceView D)
    → (old new : Option (List ℕ)) → Type 0
IsLeft reports text files device (Memory back) old new = IsUnanswered reports text files device back × Keeps old new
IsLeft reports text files device (Answers back) old new =
    (answer : List ℕ) × (fine : Bool) × IsAnswered reports text files device back answer fine × WritesFront old new answer

-- A script was run on a device in memory: this text has its answers, and then the bytes that the device took.
pub record RanInMemory (reports : Reports) (text : List ℕ) (files : List NamedBytes) (failed : ℕ) (bytes answer : List ℕ) (fine : Bool) : Type 0 where
  pub answers : List ℕ
  pub ran : RanScript reports text files 0 failed (Some bytes) answers fine
  pub answer_is : answer ≡ answers ++ hexadecimal_text bytes

-- The answer to a script whose device is in memory and then holds this; a bad script has its one line.
abbrev pub IsAnsweredInMemory : Reports → List ℕ → List NamedBytes → MemoryState → (answer : List ℕ) → (fine : Bool) → Type 0
IsAnsweredInMemory reports text files memory answer fine =
    RanInMemory reports text files memory.failures memory.bytes answer fine ⊎ RefusedScript text answer fine

-- The answer to a script whose device is in memory, whatever the device then holds; a bad script has its one line.
abbrev pub IsAnswerInMemory : Reports → List ℕ → List NamedBytes → (answer : List ℕ) → (fine : Bool) → Type 0
IsAnswerInMemory reports text files answer fine = (memory : MemoryState) × IsAnsweredInMemory reports text files memory answer fine

-- Memory was refused for the answer to a script whose device is in memory: nothing was run and this is new, or the whole script was run on it.
abbrev pub IsUnansweredInMemory : Reports → List ℕ → List NamedBytes → MemoryState → Type 0
IsUnansweredInMemory reports text files memory =
    (memory ≡ new_memory)
    ⊎ ((answer : List ℕ) × (fine : Bool) × RanScript reports text files 0 memory.failures (Some memory.bytes) answer fine)

-- What is known if a run on a device in memory failed: memory was refused, and nothing was written; or the writer took a beginning of the answer, and
-- not all of it.
abbrev pub IsLeftInMemory : Reports → List ℕ → List NamedBytes → RunFault MemoryState → (old new : Option (List ℕ)) → Type 0
IsLeftInMemory reports text files (Memory memory) old new = IsUnansweredInMemory reports text files memory × Keeps old new
IsLeftInMemory reports text files (Answers memory) old new =
    (answer : List ℕ) × (fine : Bool) × IsAnsweredInMemory reports text files memory answer fine × WritesFront old new answer

-- A script was run again over the rest of a file of which these bytes were sent before. Suppose that its end succeeded. If they are a beginning of
-- the file of its machine's pages, the inner device then reports exactly this file; if not, it got nothing.
pub record CompletesFile (text : List ℕ) (files : List NamedBytes) (sent : List ℕ) (bytes_written : Option (List ℕ)) (answer : List ℕ)
    (fine : Bool) : Type 0 where
  pub lines : List Line
  pub replies : List Reply
  pub end : Result Summary Refusal
  pub script : IsScript text lines
  pub before : ℕ
  pub middle : Machine
  pub failed : ℕ
  pub ran : Run (first_machine files) before (commands_of lines) replies middle failed
  pub last : Machine
  pub after : ℕ
  pub finished : Finishes middle failed end last after
  pub answer_is : answer ≡ answers_text (line_numbers lines) replies end
  pub fine_is : fine ≡ is_accepted replies end
  pub file : IsFrontOf sent (whole middle.state.fonts middle.pages) → OnOk end (bytes_written ≡ Some (whole middle.state.fonts middle.pages))
  pub other : (IsFrontOf sent (whole middle.state.fonts middle.pages) → ⊥) → OnOk end (bytes_written ≡ Some sent)

-- The answer to a script that is run again over the rest of a file of which these bytes were sent before; a bad script has its one line.
abbrev pub IsAnswerOfRest : List ℕ → List NamedBytes → (sent : List ℕ) → (bytes_written : Option (List ℕ)) → (answer : List ℕ) → (fine : Bool)
    → Type 0
IsAnswerOfRest text files sent bytes_written answer fine =
    CompletesFile text files sent bytes_written answer fine ⊎ (RefusedScript text answer fine × (bytes_written ≡ Some sent))

-- No reply is Device, and the end succeeded, unless memory was refused or a list is open.
abbrev pub HasNoLoss : List Reply → Result Summary Refusal → Type 0
HasNoLoss replies end =
    AllByRecursion (λ reply. reply ≢ Err refusals.Device) replies
    × IfErr end (λ refusal. (refusal ≡ refusals.OutOfMemory) ⊎ (refusal ≡ refusals.ListsOpen))

-- A script was run again over the rest of a file, whatever the inner device reports. The run's device reported these bytes, those sent before among
-- them, which were not sent again. Its failures are those of the inner device and its own: none, or one, and then the bytes sent before differ from
-- those of the run. Where both begin one file and the inner device did not fail, no failure was met, and the inner device has got exactly the rest of
-- the file of the pages.
pub record RanOverRest {D : Type 0} (text : List ℕ) (files : List NamedBytes) (sent : List ℕ) (device back : DeviceView D) (answer : List
    ℕ) (fine : Bool) : Type 0 where
  pub reported : Option (List ℕ)
  pub differing : ℕ
  pub passes_on : PassesOn sent device.bytes_written back.bytes_written reported
  pub ran : RanScript written_bytes text files device.failed (back.failed + differing) reported answer fine
  pub own : (differing ≡ 0) ⊎ ((differing ≡ 1) × Differs sent (due_bytes ran.run.last))
  pub lossless : (file : List ℕ) → IsFrontOf sent file → IsFrontOf (due_bytes ran.run.last) file → back.failed ≡ device.failed
      → HasNoLoss ran.replies ran.end
  pub rest : let all = whole ran.run.middle.state.fonts ran.run.middle.pages in
      IsFrontOf sent all → OnOk ran.end (back.bytes_written ≡ written_then device.bytes_written (drop (length sent) all))

-- The answer to a script that is run again over the rest of a file, whatever the inner device reports. A bad script has its one line, and the inner
-- device is as it was.
abbrev pub IsAnsweredOverRest : {D : Type 0} → List ℕ → List NamedBytes → (sent : List ℕ) → (device back : DeviceView D)
    → (answer : List ℕ) → (fine : Bool) → Type 0
IsAnsweredOverRest text files sent device back answer fine =
    RanOverRest text files sent device back answer fine ⊎ (RefusedScript text answer fine × (back ≡ device))

-- Memory was refused for the answer: nothing was run and the inner device is as it was, or the whole script was run.
abbrev pub IsUnansweredOverRest : {D : Type 0} → List ℕ → List NamedBytes → (sent : List ℕ) → (device back : DeviceView D) → Type 0
IsUnansweredOverRest text files sent device back =
    (back ≡ device) ⊎ ((answer : List ℕ) × (fine : Bool) × RanOverRest text files sent device back answer fine)

-- What is known if a run over the rest of a file failed: memory was refused, and nothing was written; or the writer took a beginning of the answer,
-- once, and not all of it.
abbrev pub IsLeftOverRest : {D : Type 0} → List ℕ → List NamedBytes → (sent : List ℕ) → (device : DeviceView D) → RunFault (DeviceView D)
    → (old new : Option (List ℕ)) → Type 0
IsLeftOverRest text files sent device (Memory back) old new = IsUnansweredOverRest text files sent device back × Keeps old new
IsLeftOverRest text files sent device (Answers back) old new =
    (answer : List ℕ) × (fine : Bool) × IsAnsweredOverRest text files sent device back answer fine × WritesFront old new answer

-- The line for a refused growth of memory.
abbrev pub memory_line : List ℕ
memory_line = codes "refused 1 OutOfMemory\n"
