-- Scripts that are typeset to a file (own).
use Rattle.std.specs.Prelude.{◌≡◌, ◌≢◌, ◌==◌, ◌⊎◌, [], ℕ, Bool, true, false, not, List, Option, Err, codes}
use Rattle.std.specs.Option.{ForSome}
use Rattle.std.specs.Io.KnownBytes.{Keeps}
use Rattle.boxglue_words.specs.Hosts.{AreFilesOf, created_after, has_failed, written_to_file}
use Rattle.boxglue_words.specs.Readings.{IsReading}
use Rattle.boxglue_words.specs.declared.input_fault.InputFault.TheVariants.{OutOfMemory as WantsMemory, Unreadable}
use Rattle.boxglue_program.specs.Reports.{Reports}
use Rattle.boxglue_program.specs.Runs.{IsUntouched, RanScript, RefusedScript}
use Rattle.tfm_core.specs.NamedBytes.{NamedBytes}
use Rattle.boxglue_words.specs.declared.fonts.NamedPath.{NamedPath}
use Rattle.boxglue_lib.specs.Ends.{EndsOutput, TakesText, TaskEnd, TaskRules, TellsErrors, message_line, status_of}
use Rattle.boxglue_lib.specs.Inputs.{IsUnreadScript}
use Rattle.boxglue_lib.specs.Views.{HostView, IsSame, Streams}
use Rattle.boxglue_lib.specs.declared.task_fault.TaskFault.TheVariants.{OutOfMemory}

-- The file OUT of a `typeset` that has ended: whether it was created; whether no creation and no write of it failed; and the bytes that it took, if
-- they are known.
pub record OutFile : Type 0 where
  pub is_created : Bool
  pub done : Bool
  pub written : Option (List ℕ)

-- Nothing was run: the host was returned as it was, no file was created, and no failure is to report.
pub record IsLeftAlone (Same : Type 0) (file : OutFile) : Type 0 where
  pub same : Same
  pub closed : file.is_created ≡ false
  pub silent : file.done ≡ true

-- If a file was created and took all that was written to it, it has taken a byte, if it is known what it took.
abbrev pub IsUsed : OutFile → Type 0
IsUsed file = file.is_created ≡ true → file.done ≡ true → ForSome file.written (λ bytes. bytes ≢ [])

-- A script was run with these font files on a new device that writes a file, and this is what is then known of that file; or the script is bad, and
-- nothing was run.
abbrev pub IsToFile : Reports → (text : List ℕ) → List NamedBytes → (Same : Type 0) → OutFile → (answer : List ℕ) → (fine : Bool) → Type 0
IsToFile reports text files Same file answer fine =
    ((failed : ℕ) × RanScript reports text files 0 failed (written_to_file file.is_created file.written) answer fine × (file.done ≡ (failed == 0))
    × IsUsed file)
    ⊎ (RefusedScript text answer fine × IsLeftAlone Same file)

-- Memory was refused when a script was to be run with these font files on a new device that writes a file: nothing was run on it, or the whole
-- script.
abbrev pub IsLeftToFile : Reports → (text : List ℕ) → List NamedBytes → OutFile → Type 0
IsLeftToFile reports text files file =
    (failed : ℕ)
    × (IsUntouched 0 failed (written_to_file file.is_created file.written)
    ⊎ ((answer : List ℕ) × (fine : Bool) × RanScript reports text files 0 failed (written_to_file file.is_created file.written) answer fine))
    × (file.done ≡ (failed == 0)) × IsUsed file

-- The rules of a script that was read and is run on a new device that writes a file. All files were read, so no path is unread.
abbrev pub script_rules : Reports → (text : List ℕ) → List NamedBytes → (Same : Type 0) → OutFile → TaskRules
script_rules reports text files Same file = record {
  IsAnswer = IsToFile reports text files Same file;
  IsUnread = λ path. ⊥;
  LacksPage = ⊥;
  LacksMemory = IsLeftToFile reports text files file;
}

-- The files of the fonts and the script were read, and the script was typeset.
abbrev pub IsTypeset : {H : Type 0} → Reports → List NamedPath → (old new : HostView H) → OutFile → (answer : List ℕ) → (fine : Bool) → Type 0
IsTypeset reports fonts old new file answer fine =
    (text : List ℕ) × (files : List NamedBytes) × IsReading old.input text × AreFilesOf old.files fonts files
    × IsToFile reports text files (IsSame old new) file answer fine

-- Memory was refused: for a file that can be read, and nothing was run; or after all was read.
abbrev pub LacksMemoryForTask : {H : Type 0} → Reports → List NamedPath → (old new : HostView H) → OutFile → Type 0
LacksMemoryForTask reports fonts old new file =
    (IsLeftAlone (IsSame old new) file × IsUnreadScript old.files old.input fonts WantsMemory)
    ⊎ ((text : List ℕ) × (files : List NamedBytes) × IsReading old.input text × AreFilesOf old.files fonts files
    × IsLeftToFile reports text files file)

-- The rules of `typeset`: the answers of the script or the line of its refusal; or a path that cannot be read, and then nothing was run. No page is
-- missing.
abbrev pub typesetting_rules : {H : Type 0} → Reports → List NamedPath → (old new : HostView H) → OutFile → TaskRules
typesetting_rules reports fonts old new file = record {
  IsAnswer = IsTypeset reports fonts old new file;
  IsUnread = λ path. IsUnreadScript old.files old.input fonts (Unreadable path) × IsLeftAlone (IsSame old new) file;
  LacksPage = ⊥;
  LacksMemory = LacksMemoryForTask reports fonts old new file;
}

-- What a host is after `typeset`. It has created the file at OUT once more if that was created, and no other; it reports the bytes that the file
-- took, or, if it was not created, the bytes that it reported before. If it was not created and nothing failed, the host was returned as it was. It
-- has failed meanwhile if and only if the file did not take all.
pub record LeavesHost {H : Type 0} (out : List ℕ) (old new : HostView H) (file : OutFile) : Type 0 where
  pub written : file.written ≡ new.written
  pub placed : new.created ≡ created_after file.is_created out old.created
  pub untouched : file.is_created ≡ false → new.written ≡ old.written
  pub unchanged : file.is_created ≡ false → file.done ≡ true → IsSame old new
  pub blamed : has_failed old.failures new.failures ≡ not file.done

-- The message about a file that did not take all bytes.
abbrev pub TellsUnwritten : (done : Bool) → (out : List ℕ) → (old new : Option (List ℕ)) → Type 0
TellsUnwritten true out old new = Keeps old new
TellsUnwritten false out old new = TakesText old new (message_line (codes "boxglue: cannot write ") out)

-- What the errors take at the end of `typeset`: a message if the file did not take all, and after it what they take at that end of a task.
pub record TellsTypeset (out : List ℕ) (done : Bool) (end : TaskEnd) (old new : Option (List ℕ)) : Type 0 where
  pub middle : Option (List ℕ)
  pub unwritten : TellsUnwritten done out old middle
  pub ended : TellsErrors end middle new

-- `typeset` has ended: what is known of its file and of the host, what the output took, what the errors took, and the status.
pub record HasTypeset {H : Type 0} (reports : Reports) (out : List ℕ) (fonts : List NamedPath) (old new : HostView H) (before after : Streams)
    (status : ℕ) : Type 0 where
  pub end : TaskEnd
  pub file : OutFile
  pub leaves : LeavesHost out old new file
  pub printed : EndsOutput (typesetting_rules reports fonts old new file) end before.output after.output
  pub memory : end ≡ Err OutOfMemory → LacksMemoryForTask reports fonts old new file
  pub reported : TellsTypeset out file.done end before.errors after.errors
  pub status_is : status ≡ status_of end
