-- The lines of a script (own).
use Rattle.std.specs.Prelude.{◌≡◌, ◌⊎◌, ℕ, ◌+◌, true, false, List, [], ◌∷◌, ◌++◌, length}
use Rattle.std.specs.List.{AllByRecursion}
use Rattle.std.specs.Str.Lines.{lines}
use Rattle.job_machine.specs.declared.command.Command.{Command}
use Rattle.job_machine.specs.declared.command.Command.TheVariants.{LoadFont, Text, Special}
use Rattle.boxglue_script.specs.declared.cause.Cause.{Cause}
use Rattle.boxglue_script.specs.declared.script.Line.{Line}
use Rattle.boxglue_script.specs.declared.script.ScriptFault.{ScriptFault}
use Rattle.boxglue_script.specs.declared.script.ScriptFault.TheVariants.{OutOfMemory, BadScript}
use Rattle.boxglue_script.specs.ScriptLines.{is_passed_over, fields_of, IsTextLine, IsSpecialLine}
use Rattle.boxglue_script.specs.Grammar.{SaysCommand}
use Rattle.boxglue_script.specs.Causes.{IsPrintable, IsCause}

-- A line that is counted but gives no command.
abbrev pub IsPassedOver : List ℕ → Type 0
IsPassedOver line = is_passed_over line ≡ true

-- A line gives this command: for `text` and `special` the text unchanged, and for every other command by the fields.
abbrev pub Gives : List ℕ → Command → Type 0
Gives line (Text text) = IsTextLine line text
Gives line (Special text) = IsSpecialLine line text
Gives line command = SaysCommand (fields_of line) command

-- A line that counts gives this command.
pub record SaysLine (line : List ℕ) (command : Command) : Type 0 where
  pub counted : is_passed_over line ≡ false
  pub printable : IsPrintable line
  pub says : Gives line command

-- A command that holds bytes of its line: a text, a special, or the name of a font.
abbrev pub HoldsBytes : Command → Type 0
HoldsBytes (LoadFont load) = Unit {0}
HoldsBytes (Text text) = Unit {0}
HoldsBytes (Special text) = Unit {0}
HoldsBytes command = ⊥

-- Lines, the first of them with this number, that give these commands.
abbrev pub SayFrom : ℕ → List (List ℕ) → List Line → Type 0
SayFrom number [] found = found ≡ []
SayFrom number (line ∷ rest) found =
    (IsPassedOver line × SayFrom (number + 1) rest found)
    ⊎ ((command : Command) × (more : List Line) × (found ≡ record { number = number; command = command } ∷ more)
    × SaysLine line command × SayFrom (number + 1) rest more)

-- The text of a script, and the commands of its lines, each with its number from 1.
abbrev pub IsScript : List ℕ → List Line → Type 0
IsScript text found = SayFrom 1 (lines text) found

-- A line that is passed over or gives some command.
abbrev pub IsRightLine : List ℕ → Type 0
IsRightLine line = IsPassedOver line ⊎ ((command : Command) × SaysLine line command)

-- The first bad line of a text has this number, and this cause holds of it.
pub record IsFirstBad (text : List ℕ) (number : ℕ) (cause : Cause) : Type 0 where
  pub front : List (List ℕ)
  pub line : List ℕ
  pub rest : List (List ℕ)
  pub split : lines text ≡ front ++ line ∷ rest
  pub place : number ≡ length front + 1
  pub right : AllByRecursion IsRightLine front
  pub counted : is_passed_over line ≡ false
  pub holds : IsCause cause line

-- Why a text was not read: out of memory; or the text is not a script, and this is its first bad line.
abbrev pub Explains : List ℕ → ScriptFault → Type 0
Explains text OutOfMemory = Unit {0}
Explains text (BadScript number cause) = IsFirstBad text number cause × ((found : List Line) → IsScript text found → ⊥)

-- The lines of a text up to one of them are right, and that one gives a command.
pub record IsRightSoFar (text : List ℕ) : Type 0 where
  pub front : List (List ℕ)
  pub line : List ℕ
  pub rest : List (List ℕ)
  pub split : lines text ≡ front ++ line ∷ rest
  pub right : AllByRecursion IsRightLine front
  pub command : Command
  pub says : SaysLine line command

-- The line and the cause that are named are the only ones: no other line is the first bad one of the text, and no other cause holds of it.
abbrev pub IsOneFault : List ℕ → ScriptFault → Type 0
IsOneFault text OutOfMemory = Unit {0}
IsOneFault text (BadScript number cause) = (other : ℕ) (reason : Cause) → IsFirstBad text other reason → (other ≡ number) × (reason ≡ cause)
