-- What the lines of an input say, when bad lines may be among them (own).
use Rattle.std.specs.Prelude.{◌≡◌, ◌⊎◌, ℕ, ◌+◌, Bool, true, false, List, [], ◌∷◌, ◌++◌}
use Rattle.boxglue_script.specs.declared.script.Line.{Line}
use Rattle.boxglue_script.specs.declared.line_content.LineContent.{LineContent}
use Rattle.boxglue_script.specs.declared.line_content.LineContent.TheVariants.{Nothing, Command, Bad}
use Rattle.boxglue_script.specs.ScriptLines.{is_passed_over}
use Rattle.boxglue_script.specs.Causes.{IsCause}
use Rattle.boxglue_script.specs.Script.{IsPassedOver, SaysLine}

-- A line says nothing, since it is passed over; or it gives this command; or it is bad, and this is the cause.
abbrev pub Says : List ℕ → LineContent → Type 0
Says line Nothing = IsPassedOver line
Says line (Command command) = SaysLine line command
Says line (Bad cause) = (is_passed_over line ≡ false) × IsCause cause line

-- Each of the lines says what stands at its place.
abbrev pub SayEach : List (List ℕ) → List LineContent → Type 0
SayEach [] [] = Unit {0}
SayEach [] (content ∷ more) = ⊥
SayEach (line ∷ rest) [] = ⊥
SayEach (line ∷ rest) (content ∷ more) = Says line content × SayEach rest more

-- The commands that lines give, each with the number of its line. The first line has this number.
abbrev pub lines_of_contents : ℕ → List LineContent → List Line
lines_of_contents number [] = []
lines_of_contents number (Nothing ∷ more) = lines_of_contents (number + 1) more
lines_of_contents number (Command command ∷ more) = record { number = number; command = command } ∷ lines_of_contents (number + 1) more
lines_of_contents number (Bad cause ∷ more) = lines_of_contents (number + 1) more

-- No line is bad.
abbrev pub has_no_bad : List LineContent → Bool
has_no_bad [] = true
has_no_bad (Nothing ∷ more) = has_no_bad more
has_no_bad (Command command ∷ more) = has_no_bad more
has_no_bad (Bad cause ∷ more) = false

-- A text is empty or ends in a line feed, so that each of its lines is whole.
abbrev pub IsWhole : List ℕ → Type 0
IsWhole text = (text ≡ []) ⊎ ((front : List ℕ) × (text ≡ front ++ 10 ∷ []))

-- What lines say is one: there is such a list, and no other.
abbrev pub SayOne : List (List ℕ) → Type 0
SayOne lines = (contents : List LineContent) × SayEach lines contents × ((other : List LineContent) → SayEach lines other → other ≡ contents)
