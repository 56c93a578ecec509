-- The whole program: what its words ask for, what it prints, and its status (own).
use Rattle.std.specs.Prelude.{◌≡◌, ◌⊎◌, ℕ, Bool, List, [], Option, codes, string_bytes}
use Rattle.std.specs.Borrow.{Bor}
use Rattle.std.specs.Io.KnownBytes.{Keeps}
use Rattle.boxglue_words.specs.Readings.{IsReadable, IsReading, IsUnreadable}
use Rattle.boxglue_program.specs.Reports.{Reports}
use Rattle.boxglue_program.specs.Runs.{IsAnswerInMemory, memory_line}
use Rattle.boxglue_words.specs.Tasks.{IsRefused, IsTask}
use Rattle.boxglue_words.specs.declared.fonts.WordFault.{WordFault}
use Rattle.boxglue_words.specs.declared.fonts.WordFault.TheVariants as faults
use Rattle.boxglue_words.specs.declared.task.Task.{Task}
use Rattle.boxglue_words.specs.declared.task.Task.TheVariants as tasks
use Rattle.boxglue_lib.specs.Ends.{TaskHasEnded, TaskRules, PrintsVersion, TakesText, message_line}
use Rattle.boxglue_lib.specs.FontListings.{font_rules}
use Rattle.boxglue_lib.specs.Printed.{listing_rules, painting_rules}
use Rattle.boxglue_lib.specs.Sessions.{HasSession}
use Rattle.boxglue_lib.specs.Typesets.{HasTypeset}
use Rattle.boxglue_lib.specs.Views.{HostView, IsSame, Streams}

-- Standard input was read, and run without fonts on a device in memory: this text has the answers and the bytes of the device.
abbrev pub IsAnsweredInput : Reports → (input : Option (List ℕ)) → (answer : List ℕ) → (fine : Bool) → Type 0
IsAnsweredInput reports input answer fine = (text : List ℕ) × IsReading input text × IsAnswerInMemory reports text [] answer fine

-- Standard input cannot be read.
abbrev pub IsUnreadInput : (input : Option (List ℕ)) → Bor (List ℕ) → Type 0
IsUnreadInput input path = (path.now ≡ codes "-") × IsUnreadable input

-- The rules of a run without words: the answers and the bytes of the script of standard input; or standard input cannot be read. No page is missing,
-- and memory is refused only where standard input can be read.
abbrev pub input_rules : Reports → (input : Option (List ℕ)) → TaskRules
input_rules reports input =
    record { IsAnswer = IsAnsweredInput reports input; IsUnread = IsUnreadInput input; LacksPage = ⊥; LacksMemory = IsReadable input }

-- What is written for words that are refused, and the status: the line for a refused growth of memory on the output, with status 1; any other message
-- on the errors, with status 2.
abbrev pub RefusesWords : WordFault → (before after : Streams) → (status : ℕ) → Type 0
RefusesWords faults.Memory before after status =
    TakesText before.output after.output memory_line × Keeps before.errors after.errors × (status ≡ 1)
RefusesWords (faults.Line text) before after status =
    Keeps before.output after.output × TakesText before.errors after.errors (string_bytes text) × (status ≡ 2)
RefusesWords (faults.NotPair word) before after status =
    Keeps before.output after.output
    × TakesText before.errors after.errors (message_line (codes "boxglue: not NAME=TFM: ") word.now) × (status ≡ 2)
RefusesWords (faults.NameTwice name) before after status =
    Keeps before.output after.output
    × TakesText before.errors after.errors (message_line (codes "boxglue: name given twice: ") name.now) × (status ≡ 2)

-- A task was done with the files and the standard input of a host. The version is printed. Without words the script of standard input is run in
-- memory; `typeset` runs it on a file, `session` does so line by line as it comes; `list` prints the pages of a DVI file, `fonts` its fonts and
-- `paint` a bitmap of one page, each by its rules. Except for `typeset` and `session` the host was returned as it was. Once the words are read,
-- memory is refused only for an input that can be read, or after all were read; a growth that was refused before refuses the words themselves
-- (`IsRefused`), and looks the same from outside.
abbrev pub HasDone : {H : Type 0} → Reports → Task → (old new : HostView H) → (before after : Streams) → (status : ℕ) → Type 0
HasDone reports tasks.Version old new before after status =
    IsSame old new × PrintsVersion before.output after.output status × Keeps before.errors after.errors
HasDone reports tasks.Memory old new before after status =
    IsSame old new × TaskHasEnded (input_rules reports old.input) before after status
HasDone reports (tasks.Typeset out fonts) old new before after status = HasTypeset reports out.now fonts.items old new before after status
HasDone reports (tasks.Session out fonts) old new before after status = HasSession reports out.now fonts.items old new before after status
HasDone reports (tasks.Listing dvi fonts) old new before after status =
    IsSame old new × TaskHasEnded (listing_rules old.files dvi.now fonts.items) before after status
HasDone reports (tasks.Fonts dvi) old new before after status = IsSame old new × TaskHasEnded (font_rules old.files dvi.now) before after status
HasDone reports (tasks.Painting options dvi fonts) old new before after status =
    IsSame old new × TaskHasEnded (painting_rules old.files options dvi.now fonts.items) before after status

-- The program was run with these words: `old` is the host that it was given and `new` the one that it returned, which has handed out its standard
-- input, `before` and `after` are what the output and the errors had taken, and this is its status. There are two cases. Its words are refused, for a
-- fault that `IsRefused` allows: then the host was returned as it was, and one message was written (`RefusesWords`). Or its words are a command line,
-- and `IsTask` names its task: then this was done (`HasDone`). `reports` says more of the bytes of the file that the task writes, or nothing.
abbrev pub HasRun : {H : Type 0} → Reports → (words : List (List ℕ)) → (old new : HostView H) → (before after : Streams) → (status : ℕ)
    → Type 0
HasRun reports words old new before after status =
    ((fault : WordFault) × IsRefused words fault × IsSame old new × RefusesWords fault before after status)
    ⊎ ((task : Task) × IsTask words task × HasDone reports task old new before after status)
