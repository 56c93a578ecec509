-- Sessions whose pages go to a file (own).
use Rattle.std.specs.Prelude.{◌≡◌, ◌==◌, ◌⊎◌, ◌++◌, ◌≤◌, ℕ, Bool, true, List, length, Option, Ok, Err, codes}
use Rattle.std.specs.Io.KnownBytes.{Appends}
use Rattle.boxglue_words.specs.Hosts.{AreFilesOf, IsUnread, written_to_file}
use Rattle.boxglue_words.specs.Readings.{Files, IsBeginning, IsReading}
use Rattle.boxglue_words.specs.declared.input_fault.InputFault.TheVariants.{OutOfMemory as WantsMemory, Unreadable as UnreadableInput}
use Rattle.boxglue_words.specs.declared.host.TheConstants.{READ_LIMIT}
use Rattle.boxglue_program.specs.Reports.{Reports}
use Rattle.boxglue_program.specs.Runs.{WritesFront}
use Rattle.boxglue_program.specs.Sessions.{IsCutOff, IsSent, IsUnreadable, LacksSessionMemory, RanSession}
use Rattle.tfm_core.specs.NamedBytes.{NamedBytes}
use Rattle.boxglue_words.specs.declared.fonts.NamedPath.{NamedPath}
use Rattle.boxglue_lib.specs.Ends.{TaskEnd, TaskHasEnded, TaskRules, TellsOutput, status_of}
use Rattle.boxglue_lib.specs.Typesets.{IsUsed, LeavesHost, OutFile, TellsTypeset}
use Rattle.boxglue_lib.specs.Views.{HostView, IsSame, Streams}
use Rattle.boxglue_lib.specs.declared.task_fault.TaskFault.TheVariants.{Unwritten, OutOfMemory, Unreadable, NoSuchPage}

-- What is known of a file after its new device was used: this holds of how often the device has failed and of the bytes that it reports.
abbrev pub HoldsOfFile : (Holds : (failed : ℕ) → (bytes_written : Option (List ℕ)) → Type 0) → OutFile → Type 0
HoldsOfFile Holds file =
    (failed : ℕ) × Holds failed (written_to_file file.is_created file.written) × (file.done ≡ (failed == 0)) × IsUsed file

-- The whole input was run on a file, and the job was finished.
abbrev pub RanToFile : Reports → (input : Option (List ℕ)) → List NamedBytes → OutFile → (answer : List ℕ) → (fine : Bool) → Type 0
RanToFile reports input files file answer fine =
    (text : List ℕ) × IsReading input text
    × HoldsOfFile (λ failed bytes_written. RanSession reports text files 0 failed bytes_written answer fine) file

-- Memory was refused, and the lines before were run on a file, whose job was not finished. A last line without a line feed was run only if the whole
-- input was read.
abbrev pub LeftToFile : Reports → (input : Option (List ℕ)) → List NamedBytes → OutFile → (answer : List ℕ) → Type 0
LeftToFile reports input files file answer =
    (text : List ℕ) × IsBeginning input text × (length text ≤ READ_LIMIT)
    × HoldsOfFile (λ failed bytes_written. LacksSessionMemory reports (IsReading input text) text files 0 failed bytes_written answer) file

-- A reading failed, and what was read before was run on a file, whose job was not finished.
abbrev pub CutOffToFile : Reports → (input : Option (List ℕ)) → List NamedBytes → OutFile → (answer : List ℕ) → Type 0
CutOffToFile reports input files file answer =
    (text lost : List ℕ) × IsBeginning input (text ++ lost) × IsUnreadable READ_LIMIT text lost
    × HoldsOfFile (λ failed bytes_written. IsCutOff reports text files 0 failed bytes_written answer) file

-- How a session with these font files ended, by the input, and what the output took. At its end all answers were printed; or a beginning of them,
-- also where memory was refused; memory was refused after these answers; or a reading of standard input failed, and then all answers so far or a
-- beginning of them. No page is missing.
abbrev pub EndsSession : Reports → (input : Option (List ℕ)) → List NamedBytes → OutFile → TaskEnd → (old new : Option (List ℕ)) → Type 0
EndsSession reports input files file (Ok fine) old new =
    (answer : List ℕ) × RanToFile reports input files file answer fine × Appends old new answer
EndsSession reports input files file (Err Unwritten) old new =
    (answer : List ℕ) × (((fine : Bool) × RanToFile reports input files file answer fine) ⊎ LeftToFile reports input files file answer)
    × WritesFront old new answer
EndsSession reports input files file (Err OutOfMemory) old new =
    (answer : List ℕ) × LeftToFile reports input files file answer × Appends old new answer
EndsSession reports input files file (Err (Unreadable path)) old new =
    (answer : List ℕ) × (reads : Bool) × (path.now ≡ codes "-") × CutOffToFile reports input files file answer × IsSent true reads old new answer
EndsSession reports input files file (Err NoSuchPage) old new = ⊥

-- A session with these font files has ended: what is known of its file and of the host; what the output took, and after it the line for memory that
-- was refused; what the errors took; and the status.
pub record HasHeld {H : Type 0} (reports : Reports) (out : List ℕ) (files : List NamedBytes) (old new : HostView H) (before after : Streams)
    (status : ℕ) : Type 0 where
  pub end : TaskEnd
  pub file : OutFile
  pub leaves : LeavesHost out old new file
  pub middle : Option (List ℕ)
  pub printed : EndsSession reports old.input files file end before.output middle
  pub output_is : TellsOutput end middle after.output
  pub reported : TellsTypeset out file.done end before.errors after.errors
  pub status_is : status ≡ status_of end

-- The rules of a session that is not begun, since a file of a font is not read: there is no answer.
abbrev pub unread_rules : Files → List NamedPath → TaskRules
unread_rules contents fonts = record {
  IsAnswer = λ text fine. ⊥;
  IsUnread = λ path. IsUnread contents fonts (UnreadableInput path);
  LacksPage = ⊥;
  LacksMemory = IsUnread contents fonts WantsMemory;
}

-- `session` has ended: a file of a font was not read, and nothing was run; or all were read, and the session was held.
abbrev pub HasSession : {H : Type 0} → Reports → (out : List ℕ) → List NamedPath → (old new : HostView H) → (before after : Streams) → (status : ℕ)
    → Type 0
HasSession reports out fonts old new before after status =
    (IsSame old new × TaskHasEnded (unread_rules old.files fonts) before after status)
    ⊎ ((files : List NamedBytes) × AreFilesOf old.files fonts files × HasHeld reports out files old new before after status)
