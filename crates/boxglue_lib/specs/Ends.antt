-- How tasks end, and what is reported then (own).
use Rattle.std.specs.Prelude.{◌≡◌, ◌⊎◌, ◌++◌, ℕ, Bool, true, false, List, Option, Result, Ok, Err, codes}
use Rattle.std.specs.Borrow.{Bor}
use Rattle.std.specs.Io.KnownBytes.{Appends, Keeps}
use Rattle.boxglue_program.specs.Runs.{WritesFront, memory_line}
use Rattle.boxglue_words.specs.declared.task.TheConstants.{VERSION_LINE}
use Rattle.boxglue_lib.specs.Views.{Streams}
use Rattle.boxglue_lib.specs.declared.task_fault.TaskFault.{TaskFault}
use Rattle.boxglue_lib.specs.declared.task_fault.TaskFault.TheVariants.{Unwritten, OutOfMemory, Unreadable, NoSuchPage}

-- How a task ended that prints a text to the output: the output took the whole text, with true if nothing was refused; or a fault.
abbrev pub TaskEnd : Type 0
TaskEnd = Result Bool TaskFault

-- A writer took a text, or only a beginning of it.
abbrev pub TakesText : (old new : Option (List ℕ)) → List ℕ → Type 0
TakesText old new text = Appends old new text ⊎ WritesFront old new text

-- A line of two parts.
abbrev pub message_line : List ℕ → List ℕ → List ℕ
message_line what name = what ++ (name ++ codes "\n")

-- The version was printed, with status 0, or only a beginning of its line, with status 1.
abbrev pub PrintsVersion : (old new : Option (List ℕ)) → (status : ℕ) → Type 0
PrintsVersion old new status =
    (Appends old new VERSION_LINE.now × (status ≡ 0)) ⊎ (WritesFront old new VERSION_LINE.now × (status ≡ 1))

-- The status at an end: 0 if the whole text was printed and nothing was refused, 2 if there is no such page, and otherwise 1.
abbrev pub status_of : TaskEnd → ℕ
status_of (Ok true) = 0
status_of (Ok false) = 1
status_of (Err Unwritten) = 1
status_of (Err OutOfMemory) = 1
status_of (Err (Unreadable path)) = 1
status_of (Err NoSuchPage) = 2

-- What the errors take at an end: a message for a file that could not be read or a missing page.
abbrev pub TellsErrors : TaskEnd → (old new : Option (List ℕ)) → Type 0
TellsErrors (Err (Unreadable path)) old new = TakesText old new (message_line (codes "boxglue: cannot read ") path.now)
TellsErrors (Err NoSuchPage) old new = TakesText old new (codes "boxglue: no such page\n")
TellsErrors _ old new = Keeps old new

-- What the output takes after an end: a line if memory was refused.
abbrev pub TellsOutput : TaskEnd → (old new : Option (List ℕ)) → Type 0
TellsOutput (Err OutOfMemory) old new = TakesText old new memory_line
TellsOutput _ old new = Keeps old new

-- The rules of a task: what is true where it ends with a text as its answer, and with `fine` exactly if nothing was refused; where it ends with a
-- path that cannot be read; with a missing page; with memory that was refused. An end whose rule is ⊥ does not occur.
pub record TaskRules : Type 1 where
  pub IsAnswer : (text : List ℕ) → (fine : Bool) → Type 0
  pub IsUnread : (path : Bor (List ℕ)) → Type 0
  pub LacksPage : Type 0
  pub LacksMemory : Type 0

-- How a task ended by its rules, and what it printed: an answer, or only a beginning of one; or nothing, since a path cannot be read, a page is
-- missing or memory was refused. The rule for memory is in `TaskHasEnded`.
abbrev pub EndsTask : TaskRules → TaskEnd → (old new : Option (List ℕ)) → Type 0
EndsTask rules (Ok fine) old new = (text : List ℕ) × rules.IsAnswer text fine × Appends old new text
EndsTask rules (Err Unwritten) old new = (text : List ℕ) × (fine : Bool) × rules.IsAnswer text fine × WritesFront old new text
EndsTask rules (Err OutOfMemory) old new = Keeps old new
EndsTask rules (Err (Unreadable path)) old new = rules.IsUnread path × Keeps old new
EndsTask rules (Err NoSuchPage) old new = rules.LacksPage × Keeps old new

-- The same with what the output takes after it: the line for memory that was refused.
abbrev pub EndsOutput : TaskRules → TaskEnd → (old new : Option (List ℕ)) → Type 0
EndsOutput rules (Err OutOfMemory) old new = TakesText old new memory_line
EndsOutput rules end old new = EndsTask rules end old new

-- A task has ended by its rules: what the output took, when memory may be refused, what the errors took, and the status.
pub record TaskHasEnded (rules : TaskRules) (before after : Streams) (status : ℕ) : Type 0 where
  pub end : TaskEnd
  pub printed : EndsOutput rules end before.output after.output
  pub memory : end ≡ Err OutOfMemory → rules.LacksMemory
  pub reported : TellsErrors end before.errors after.errors
  pub status_is : status ≡ status_of end
