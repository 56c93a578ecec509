-- What the lines of an input say.
use Rattle.std.proofs.Common.{◌≡◌, inl, inr, ℕ, ◌+◌, Bool, true, false, List, [], ◌∷◌, ◌++◌, Result, Ok, Err, IfOk, OnErr, refl, ap, sym, ◌∙◌}
use Rattle.std.proofs.Common.{subst, append_assoc}
use Rattle.std.specs.Str.Lines.{lines}
use Rattle.job_machine.specs.declared.command.Command.{Command as ACommand}
use Rattle.boxglue_script.specs.declared.cause.Cause.{Cause}
use Rattle.boxglue_script.specs.declared.script.Line.{Line}
use Rattle.boxglue_script.specs.declared.line_content.LineContent.{LineContent}
use Rattle.boxglue_script.specs.declared.line_content.LineContent.TheVariants.{Nothing, Command, Bad}
use Rattle.boxglue_script.specs.ScriptLines.{is_passed_over}
use Rattle.boxglue_script.specs.Causes.{IsCause}
use Rattle.boxglue_script.specs.Script.{HoldsBytes, SaysLine, SayFrom}
use Rattle.boxglue_script.specs.LineContents.{Says, SayEach, SayOne, IsWhole, lines_of_contents, has_no_bad}
use Rattle.boxglue_script.specs.declared.script.ScriptFault.TheVariants.{BadScript}
use Rattle.boxglue_script.specs.Private.Reading.{command_of_line, content_of, LinesOrFault, lines_then, reading_from, GivesCommand, ReadsOn}
use Rattle.boxglue_script.specs.Private.Reading.{HasFaultAtLine, ReadsBytes}
use Rattle.boxglue_script.proofs.LineLemmas.{lines_joined}
use Rattle.boxglue_script.proofs.ScriptLaws.{line_said, line_read, line_fault}
use Rattle.boxglue_script.proofs.OneCause.{one_line_cause, not_said}

-- Two lists of lines say what each says.
pub say_joined : (all more : List (List ℕ)) (first second : List LineContent) → SayEach all first → SayEach more second → SayEach (all ++ more) (first ++ second)
say_joined [] more [] second h k = k
say_joined [] more (said ∷ first) second h k = absurd h
say_joined (line ∷ all) more [] second h k = absurd h
say_joined (line ∷ all) more (said ∷ first) second h k = (h.0, say_joined all more first second h.1 k)

pub say_in_pieces : (text more : List ℕ) (first second : List LineContent) → IsWhole text → SayEach (lines text) first → SayEach (lines more) second → SayEach (lines (text ++ more)) (first ++ second)
say_in_pieces text more first second whole h k =
    subst (λ (all : List (List ℕ)). SayEach all (first ++ second)) (sym (lines_joined text more whole)) (say_joined (lines text) (lines more) first second h k)

fault_by : (line : List ℕ) (cause : Cause) (r : Result ACommand Cause) → command_of_line line ≡ r → is_passed_over line ≡ false → IsCause cause line → r ≡ Err cause
fault_by line cause (Ok command) e counted holds = absurd (not_said line cause command holds (line_said line command counted e))
fault_by line cause (Err other) e counted holds = ap Err (one_line_cause line other cause (line_fault line other _ refl e) holds)

-- The cause that holds of a line is the one that is read.
pub fault_read : (line : List ℕ) (cause : Cause) → is_passed_over line ≡ false → IsCause cause line → command_of_line line ≡ Err cause
fault_read line cause counted holds = fault_by line cause (command_of_line line) refl counted holds

-- What a line says, by what is read of it.
said_by : Bool → Result ACommand Cause → LineContent
said_by true read = Nothing
said_by false read = content_of read

abbrev what_says : List ℕ → LineContent
what_says line = said_by (is_passed_over line) (command_of_line line)

says_by : (line : List ℕ) (b : Bool) (r : Result ACommand Cause) → is_passed_over line ≡ b → command_of_line line ≡ r → Says line (said_by b r)
unfolding said_by
says_by line true r e read = e
says_by line false (Ok command) e read = line_said line command e read
says_by line false (Err cause) e read = (e, line_fault line cause _ refl read)

-- What was read of a line is said by it.
read_says : (line : List ℕ) (said : LineContent) → is_passed_over line ≡ false → said ≡ content_of (command_of_line line) → Says line said
unfolding said_by
read_says line said counted read = subst (Says line) (sym read) (says_by line false (command_of_line line) counted refl)

pub read_is_said : {E : Type 0} (line : List ℕ) (r : Result LineContent E) → is_passed_over line ≡ false
    → IfOk r (λ said. said ≡ content_of (command_of_line line)) → IfOk r (Says line)
read_is_said line (Ok said) counted read = read_says line said counted read
read_is_said line (Err e) counted read = tt

says_only : (line : List ℕ) (said : LineContent) → Says line said → said ≡ what_says line
unfolding said_by
says_only line Nothing h = rw h refl
says_only line (Command command) h = rw (h.counted, line_read line command h) refl
says_only line (Bad cause) h = rw (h.0, fault_read line cause h.0 h.1) refl

-- A line says one thing.
pub says_one : (line : List ℕ) (said other : LineContent) → Says line said → Says line other → other ≡ said
says_one line said other h k = says_only line other k ∙ sym (says_only line said h)

says_each : List (List ℕ) → List LineContent
says_each [] = []
says_each (line ∷ all) = what_says line ∷ says_each all

each_says : (all : List (List ℕ)) → SayEach all (says_each all)
unfolding says_each
each_says [] = tt
each_says (line ∷ all) = (says_by line _ _ refl refl, each_says all)

pub each_one : (all : List (List ℕ)) (said other : List LineContent) → SayEach all said → SayEach all other → other ≡ said
each_one [] [] [] h k = refl
each_one [] [] (o ∷ other) h k = absurd k
each_one [] (s ∷ said) other h k = absurd h
each_one (line ∷ all) [] other h k = absurd h
each_one (line ∷ all) (s ∷ said) [] h k = absurd k
each_one (line ∷ all) (s ∷ said) (o ∷ other) h k = rw (says_one line s o h.0 k.0, each_one all said other h.1 k.1) refl

pub say_one : (all : List (List ℕ)) → SayOne all
say_one all = (says_each all, each_says all, λ other k. each_one all (says_each all) other (each_says all) k)

true_not_false : {b : Bool} → b ≡ true → b ≡ false → ⊥
true_not_false t f = cc

one_command : (line : List ℕ) (command other : ACommand) → SaysLine line command → SaysLine line other → other ≡ command
one_command line command other h k = let same : Ok other ≡ Ok command = sym (line_read line other k) ∙ line_read line command h in cc

-- The lines of a good script say its commands, and none is bad.
pub script_said : (number : ℕ) (all : List (List ℕ)) (found : List Line) (said : List LineContent) → SayFrom number all found → SayEach all said → (lines_of_contents number said ≡ found) × (has_no_bad said ≡ true)
script_said number [] found [] h k = (sym h, refl)
script_said number [] found (s ∷ said) h k = absurd k
script_said number (line ∷ all) found [] h k = absurd k
script_said number (line ∷ all) found (Nothing ∷ said) (inl (passed, h)) k = script_said (number + 1) all found said h k.1
script_said number (line ∷ all) found (Command command ∷ said) (inl (passed, h)) k = absurd (true_not_false passed k.0.counted)
script_said number (line ∷ all) found (Bad cause ∷ said) (inl (passed, h)) k = absurd (true_not_false passed k.0.0)
script_said number (line ∷ all) found (Nothing ∷ said) (inr (command, more, is, says, h)) k = absurd (true_not_false k.0 says.counted)
script_said number (line ∷ all) found (Command other ∷ said) (inr (command, more, is, says, h)) k =
    let (same, good) = script_said (number + 1) all more said h k.1 in
    (rw (one_command line command other says k.0, same) (sym is), good)
script_said number (line ∷ all) found (Bad cause ∷ said) (inr (command, more, is, says, h)) k = absurd (not_said line cause command k.0.1 says)

-- Lines of which none is bad are those of a good script.
pub said_script : (number : ℕ) (all : List (List ℕ)) (said : List LineContent) → SayEach all said → has_no_bad said ≡ true → SayFrom number all (lines_of_contents number said)
said_script number [] [] h good = refl
said_script number [] (s ∷ said) h good = absurd h
said_script number (line ∷ all) [] h good = absurd h
said_script number (line ∷ all) (Nothing ∷ said) h good = inl (h.0, said_script (number + 1) all said h.1 good)
said_script number (line ∷ all) (Command command ∷ said) h good = inr (command, lines_of_contents (number + 1) said, refl, h.0, said_script (number + 1) all said h.1 good)
said_script number (line ∷ all) (Bad cause ∷ said) h good = absurd (true_not_false good refl)

-- A line that gives a command is one for which memory may be wanted.
pub gives_read : (line : List ℕ) (command : ACommand) → SaysLine line command → GivesCommand line
gives_read line command h = (h.counted, rw (line_read line command h) refl)

read_bytes : (r : Result ACommand Cause) → ReadsBytes r → (command : ACommand) × (r ≡ Ok command) × HoldsBytes command
read_bytes (Ok command) holds = (command, refl, holds)
read_bytes (Err cause) holds = absurd holds

-- A line of which a command with bytes is read gives one.
bytes_given : (line : List ℕ) → is_passed_over line ≡ false → ReadsBytes (command_of_line line) → (command : ACommand) × SaysLine line command × HoldsBytes command
bytes_given line counted reads =
    let (command, read, holds) = read_bytes (command_of_line line) reads in (command, line_said line command counted read, holds)

pub on_any_err : {A E : Type 0} {P : Type 0} (r : Result A E) → P → OnErr r P
on_any_err (Ok x) p = tt
on_any_err (Err e) p = p

-- A line for which memory is refused gives a command with bytes.
pub refused_gives : {A E : Type 0} (line : List ℕ) (r : Result A E) → is_passed_over line ≡ false → OnErr r (ReadsBytes (command_of_line line))
    → OnErr r ((command : ACommand) × SaysLine line command × HoldsBytes command)
refused_gives line (Ok x) counted reads = tt
refused_gives line (Err e) counted reads = bytes_given line counted reads

-- What a line says is the only thing that it says.
pub said_alone : {E : Type 0} (line : List ℕ) (r : Result LineContent E) → IfOk r (Says line)
    → IfOk r (λ said. (other : LineContent) → Says line other → other ≡ said)
said_alone line (Ok said) h = λ other k. says_one line said other h k
said_alone line (Err e) h = tt

abbrev read_lines : List Line → LinesOrFault
read_lines all = Ok all

then_more : (old : List Line) (line : Line) (more : LinesOrFault) → lines_then old (lines_then (line ∷ []) more) ≡ lines_then (old ++ line ∷ []) more
then_more old line (Err fault) = refl
then_more old line (Ok found) = ap (λ (all : List Line). read_lines all) (sym (append_assoc old (line ∷ []) found))

-- Reading goes on after a line that gives a command.
pub reads_on : (number : ℕ) (line : List ℕ) (old : List Line) (command : ACommand) → SaysLine line command → ReadsOn number line old (old ++ record { number = number; command = command } ∷ [])
reads_on number line old command h rest =
    let record_is : Line = record { number = number; command = command } in
    rw (h.counted, line_read line command h) (then_more old record_is (reading_from (number + 1) rest))

-- Reading stops at a bad line.
pub stops_at : (number : ℕ) (line : List ℕ) (old : List Line) (cause : Cause) → is_passed_over line ≡ false → IsCause cause line
    → HasFaultAtLine number line old (BadScript number cause)
stops_at number line old cause counted holds rest = rw (counted, fault_read line cause counted holds) refl
