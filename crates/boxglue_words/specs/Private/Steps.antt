-- The steps of reading a command line, one word for each call (own).
use Rattle.std.specs.Prelude.{◌≡◌, ⊤, true, List, None, Some}
use Rattle.std.specs.List.{list_any}
use Rattle.clap.specs.Words.{Row, Text, first_of}
use Rattle.boxglue_words.specs.declared.fonts.WordFault.{WordFault}
use Rattle.boxglue_words.specs.declared.fonts.WordFault.TheVariants.{Line, Memory as WantsMemory}
use Rattle.boxglue_words.specs.declared.task.Task.{Task}
use Rattle.boxglue_words.specs.Pairs.{IsFaultOf, IsFirstFault, is_equals}
use Rattle.boxglue_words.specs.Tasks.{AsksBy, IsTaskOf, Request, font_words}

-- The fault of a word after others; or memory was refused for a word that has a `=`.
abbrev pub IsFaultAfter : List Text → Text → WordFault → Type 0
IsFaultAfter before word WantsMemory = list_any is_equals word ≡ true
IsFaultAfter before word fault = IsFaultOf before word fault

-- The subcommand of this name, with these rows, asks for the task.
abbrev pub IsTaskBy : Text → List Row → Task → Type 0
IsTaskBy name rows task = (request : Request) × AsksBy name rows request × IsTaskOf request task

-- Why the file and the words NAME=TFM of a subcommand are refused: without its file it is no line; or the first faulty word; or out of memory.
abbrev pub IsFileFault : Text → List Row → WordFault → Type 0
IsFileFault id rows WantsMemory = ⊤
IsFileFault id rows (Line text) = first_of id rows ≡ None
IsFileFault id rows fault = (path : Text) × (first_of id rows ≡ Some path) × IsFirstFault (font_words rows) fault

-- The line is refused, or out of memory.
abbrev pub IsLine : WordFault → Type 0
IsLine (Line text) = ⊤
IsLine WantsMemory = ⊤
IsLine _ = ⊥
