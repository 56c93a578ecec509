-- The function that reads lines gives the lines of the script.
use Rattle.std.proofs.Common.{◌≡◌, inl, inr, ⊎_elim, ℕ, ◌+◌, Bool, true, false, List, [], ◌∷◌, ◌++◌, codes, length, Result, Ok, Err, IsErrAnd, IsOk, append_assoc, refl, ap, sym, ◌∙◌, subst, arith}
use Rattle.std.specs.List.{list_all, AllByRecursion}
use Rattle.std.specs.Str.{bytes_eq}
use Rattle.std.specs.Str.Lines.{lines}
use Rattle.std.proofs.lemmas.List.{append-nil}
use Rattle.job_machine.specs.declared.command.Command.{Command}
use Rattle.job_machine.specs.declared.command.Command.TheVariants.{Text, Special}
use Rattle.boxglue_script.specs.declared.cause.Cause.{Cause}
use Rattle.boxglue_script.specs.declared.cause.Cause.TheVariants.{Byte, Word}
use Rattle.boxglue_script.specs.declared.script.Line.{Line}
use Rattle.boxglue_script.specs.declared.script.ScriptFault.{ScriptFault}
use Rattle.boxglue_script.specs.declared.script.ScriptFault.TheVariants.{OutOfMemory, BadScript}
use Rattle.boxglue_script.specs.ScriptLines.{is_passed_over, is_printable, fields_of, IsTextLine, IsSpecialLine, HasText}
use Rattle.boxglue_script.specs.Private.Names.{box_name, register_name, item_name, name_of}
use Rattle.boxglue_script.specs.Grammar.{SaysCommand}
use Rattle.boxglue_script.specs.Causes.{IsPrintable, IsFieldCause, IsCause}
use Rattle.boxglue_script.specs.Script.{IsPassedOver, Gives, SaysLine, SayFrom, IsScript, IsRightLine, IsFirstBad, Explains, IsOneFault, IsRightSoFar}
use Rattle.boxglue_script.specs.Private.Reading.{front_field, after_field, command_of, kept_text, command_of_printable, command_of_line, LinesOrFault, lines_then, reads_by, reading_from, GivesCommand, ReadsOn}
use Rattle.boxglue_script.proofs.GivenCommands.{complete}
use Rattle.boxglue_script.proofs.CommandLaws.{sound}
use Rattle.boxglue_script.proofs.FieldLaws.{same_bytes, bytes_same}
use Rattle.boxglue_script.proofs.CauseLaws.{cause_holds}
use Rattle.boxglue_script.proofs.OneCause.{one_first_bad}
use Rattle.boxglue_script.proofs.TextLines.{word_said, text_read, special_read, first_is}

-- The fields of a line give its command, except a text or a special.
gives : (line : List ℕ) (command : Command) → SaysCommand (fields_of line) command → Gives line command
gives line (Text text) h = absurd h
gives line (Special text) h = absurd h
gives line command h = h

-- The command of a line whose first field is neither `text` nor `special`, or is one of them.
given_in : (line : List ℕ) (command : Command) (b c : Bool) → bytes_eq (front_field line) (codes "text") ≡ b → bytes_eq (front_field line) (codes "special") ≡ c → command_of_printable line ≡ Ok command → Gives line command
unfolding command_of_printable
given_in line command true c e f h =
    let s : Ok (Text (kept_text line)) ≡ Ok command = rw e at h in
    let is : Text (kept_text line) ≡ command = cc in
    let P : Command → Type 0 = λ x. Gives line x in
    subst P is (word_said (codes "text") line (same_bytes (front_field line) (codes "text") e))
given_in line command false true e f h =
    let s : Ok (Special (kept_text line)) ≡ Ok command = rw (e, f) at h in
    let is : Special (kept_text line) ≡ command = cc in
    let P : Command → Type 0 = λ x. Gives line x in
    subst P is (word_said (codes "special") line (same_bytes (front_field line) (codes "special") f))
given_in line command false false e f h = gives line command (sound (fields_of line) command (rw (e, f) at h))

no_text : (more : List (List ℕ)) → command_of (codes "text" ∷ more) ≡ Err Word
unfolding command_of name_of box_name register_name item_name
no_text more = refl

no_special : (more : List (List ℕ)) → command_of (codes "special" ∷ more) ≡ Err Word
unfolding command_of name_of box_name register_name item_name
no_special more = refl

fields_by : (line : List ℕ) (command : Command) (b c : Bool) → bytes_eq (front_field line) (codes "text") ≡ b → bytes_eq (front_field line) (codes "special") ≡ c → SaysCommand (fields_of line) command → command_of_printable line ≡ Ok command
unfolding command_of_printable
fields_by line command true c e f h =
    let first = first_is 116 (codes "ext") line (same_bytes (front_field line) (codes "text") e) in
    let other : Err Word ≡ Ok command = sym (no_text (fields_of (after_field line))) ∙ ap command_of (sym first) ∙ complete (fields_of line) command h in
    absurd (cc)
fields_by line command false true e f h =
    let first = first_is 115 (codes "pecial") line (same_bytes (front_field line) (codes "special") f) in
    let other : Err Word ≡ Ok command = sym (no_special (fields_of (after_field line))) ∙ ap command_of (sym first) ∙ complete (fields_of line) command h in
    absurd (cc)
fields_by line command false false e f h = rw (e, f) (complete (fields_of line) command h)

-- The command that a line gives is read.
given_read : (line : List ℕ) (command : Command) → Gives line command → command_of_printable line ≡ Ok command
unfolding command_of_printable
given_read line (Text text) h = let read = text_read line text h in rw (read.front, read.kept) refl
given_read line (Special text) h = let read = special_read line text h in rw (read.front, read.kept) refl
given_read line command h = fields_by line command _ _ refl refl h

-- What is read of a line.
line_by : (line : List ℕ) (command : Command) (b : Bool) → list_all is_printable line ≡ b → command_of_line line ≡ Ok command → IsPrintable line × Gives line command
unfolding command_of_line
line_by line command true e h = (e, given_in line command _ _ refl refl (rw e at h))
line_by line command false e h = let s : Err Byte ≡ Ok command = rw e at h in absurd (cc)

pub line_said : (line : List ℕ) (command : Command) → is_passed_over line ≡ false → command_of_line line ≡ Ok command → SaysLine line command
line_said line command counted h =
    let said = line_by line command _ refl h in
    record { counted = counted; printable = said.0; says = said.1 }

pub line_read : (line : List ℕ) (command : Command) → SaysLine line command → command_of_line line ≡ Ok command
unfolding command_of_line
line_read line command h = rw h.printable (given_read line command h.says)

no_text_line : (line text : List ℕ) → bytes_eq (front_field line) (codes "text") ≡ false → bytes_eq (front_field line) (codes "special") ≡ false → HasText line text → ⊥
no_text_line line text e f said = ⊎_elim
    (λ (is : IsTextLine line text). let same : true ≡ false = sym (rw (text_read line text is).front (bytes_same (codes "text"))) ∙ e in cc)
    (λ (is : IsSpecialLine line text). let same : true ≡ false = sym (rw (special_read line text is).front (bytes_same (codes "special"))) ∙ f in cc)
    said

given_fault : (line : List ℕ) (cause : Cause) (b c : Bool) → bytes_eq (front_field line) (codes "text") ≡ b → bytes_eq (front_field line) (codes "special") ≡ c → command_of_printable line ≡ Err cause → ((text : List ℕ) → HasText line text → ⊥) × IsFieldCause cause (fields_of line)
unfolding command_of_printable
given_fault line cause true c e f h = let s : Ok (Text (kept_text line)) ≡ Err cause = rw e at h in absurd (cc)
given_fault line cause false true e f h = let s : Ok (Special (kept_text line)) ≡ Err cause = rw (e, f) at h in absurd (cc)
given_fault line cause false false e f h = (λ text said. no_text_line line text e f said, cause_holds (fields_of line) cause (rw (e, f) at h))

pub line_fault : (line : List ℕ) (cause : Cause) (b : Bool) → list_all is_printable line ≡ b → command_of_line line ≡ Err cause → IsCause cause line
unfolding command_of_line
line_fault line cause true e h =
    let fault = given_fault line cause _ _ refl refl (rw e at h) in
    inr (e, fault.0, fault.1)
line_fault line cause false e h = let s : Err Byte ≡ Err cause = rw e at h in inl (cc, e)

abbrev read_lines : List Line → LinesOrFault
read_lines found = Ok found

-- What is found, followed by more.
after_one : (line : Line) (more : LinesOrFault) (found : List Line) → lines_then (line ∷ []) more ≡ Ok found → (rest : List Line) × (more ≡ Ok rest) × (found ≡ line ∷ rest)
after_one line (Err fault) found h = absurd (cc)
after_one line (Ok rest) found h = (rest, refl, cc)

read_by : (number : ℕ) (line : List ℕ) (r : Result Command Cause) (more : LinesOrFault) (found : List Line) → command_of_line line ≡ r → reads_by number r more ≡ Ok found → (command : Command) × (rest : List Line) × (command_of_line line ≡ Ok command) × (more ≡ Ok rest) × (found ≡ record { number = number; command = command } ∷ rest)
read_by number line (Err cause) more found e h = absurd (cc)
read_by number line (Ok command) more found e h =
    let rest = after_one (record { number = number; command = command }) more found h in
    (command, rest.0, e, rest.1, rest.2)

said_line : (number : ℕ) (line : List ℕ) (rest : List (List ℕ)) (found : List Line) (b : Bool) → is_passed_over line ≡ b → ((later : List Line) → reading_from (number + 1) rest ≡ Ok later → SayFrom (number + 1) rest later) → reading_from number (line ∷ rest) ≡ Ok found → SayFrom number (line ∷ rest) found
said_line number line rest found true e more h = inl (e, more found (rw e at h))
said_line number line rest found false e more h =
    let read = read_by number line (command_of_line line) (reading_from (number + 1) rest) found refl (rw e at h) in
    inr (read.0, read.1, read.4, line_said line read.0 e read.2, more read.1 read.3)

-- The commands that are read are given.
pub said_from : (number : ℕ) (all : List (List ℕ)) (found : List Line) → reading_from number all ≡ Ok found → SayFrom number all found
said_from number [] found h = cc
said_from number (line ∷ rest) found h = said_line number line rest found _ refl (λ later e. said_from (number + 1) rest later e) h

-- The commands that are given are read.
pub read_from : (number : ℕ) (all : List (List ℕ)) (found : List Line) → SayFrom number all found → reading_from number all ≡ Ok found
read_from number [] found h = rw h refl
read_from number (line ∷ rest) found h = ⊎_elim
    (λ (passed : IsPassedOver line × SayFrom (number + 1) rest found). rw passed.0 (read_from (number + 1) rest found passed.1))
    (λ (said : (command : Command) × (more : List Line) × (found ≡ record { number = number; command = command } ∷ more) × SaysLine line command × SayFrom (number + 1) rest more).
    rw (said.3.counted, line_read line said.0 said.3, read_from (number + 1) rest said.1 said.4, said.2) refl)
    h

-- The first bad line of these, of which the first has this number.
pub record BadFrom (number : ℕ) (all : List (List ℕ)) (fault : ScriptFault) : Type 0 where
  pub front : List (List ℕ)
  pub line : List ℕ
  pub rest : List (List ℕ)
  pub cause : Cause
  pub split : all ≡ front ++ line ∷ rest
  pub fault_is : fault ≡ BadScript (length front + number) cause
  pub right : AllByRecursion IsRightLine front
  pub counted : is_passed_over line ≡ false
  pub holds : IsCause cause line

-- The first bad line of some lines after a right one.
first_bad_after : (number : ℕ) (line : List ℕ) (rest : List (List ℕ)) (fault : ScriptFault) → IsRightLine line → BadFrom (number + 1) rest fault → BadFrom number (line ∷ rest) fault
first_bad_after number line rest fault right bad = record {
  front = line ∷ bad.front;
  line = bad.line;
  rest = bad.rest;
  cause = bad.cause;
  split = ap (λ (xs : List (List ℕ)). line ∷ xs) bad.split;
  fault_is = bad.fault_is ∙ ap (λ (n : ℕ). BadScript n bad.cause) (omega arith);
  right = (right, bad.right);
  counted = bad.counted;
  holds = bad.holds;
}

first_bad_here : (number : ℕ) (line : List ℕ) (rest : List (List ℕ)) (cause : Cause) → is_passed_over line ≡ false → command_of_line line ≡ Err cause → BadFrom number (line ∷ rest) (BadScript number cause)
first_bad_here number line rest cause counted h = record {
  front = [];
  line = line;
  rest = rest;
  cause = cause;
  split = refl;
  fault_is = ap (λ (n : ℕ). BadScript n cause) (omega arith);
  right = tt;
  counted = counted;
  holds = line_fault line cause _ refl h;
}

fault_after : (line : Line) (more : LinesOrFault) (fault : ScriptFault) → lines_then (line ∷ []) more ≡ Err fault → more ≡ Err fault
fault_after line (Err other) fault h = cc
fault_after line (Ok rest) fault h = absurd (cc)

first_bad_by : (number : ℕ) (line : List ℕ) (rest : List (List ℕ)) (fault : ScriptFault) (r : Result Command Cause) → is_passed_over line ≡ false → command_of_line line ≡ r → (reading_from (number + 1) rest ≡ Err fault → BadFrom (number + 1) rest fault) → reads_by number r (reading_from (number + 1) rest) ≡ Err fault → BadFrom number (line ∷ rest) fault
first_bad_by number line rest fault (Err cause) counted e more h =
    let here : BadScript number cause ≡ fault = cc in
    let P : ScriptFault → Type 0 = λ f. BadFrom number (line ∷ rest) f in
    subst P here (first_bad_here number line rest cause counted e)
first_bad_by number line rest fault (Ok command) counted e more h =
    first_bad_after number line rest fault (inr (command, line_said line command counted e)) (more (fault_after _ (reading_from (number + 1) rest) fault h))

first_bad_at_line : (number : ℕ) (line : List ℕ) (rest : List (List ℕ)) (fault : ScriptFault) (b : Bool) → is_passed_over line ≡ b → (reading_from (number + 1) rest ≡ Err fault → BadFrom (number + 1) rest fault) → reading_from number (line ∷ rest) ≡ Err fault → BadFrom number (line ∷ rest) fault
first_bad_at_line number line rest fault true e more h = first_bad_after number line rest fault (inl e) (more (rw e at h))
first_bad_at_line number line rest fault false e more h = first_bad_by number line rest fault (command_of_line line) e refl more (rw e at h)

pub first_bad_from : (number : ℕ) (all : List (List ℕ)) (fault : ScriptFault) → reading_from number all ≡ Err fault → BadFrom number all fault
first_bad_from number [] fault h = absurd (cc)
first_bad_from number (line ∷ rest) fault h = first_bad_at_line number line rest fault _ refl (λ e. first_bad_from (number + 1) rest fault e) h

same_fault : (m n : ℕ) (c d : Cause) → BadScript m c ≡ BadScript n d → (m ≡ n) × (c ≡ d)
same_fault m n c d e = (cc, cc)

explained : (text : List ℕ) (number : ℕ) (cause : Cause) → BadFrom 1 (lines text) (BadScript number cause) → IsFirstBad text number cause
explained text number cause bad =
    let same = same_fault number (length bad.front + 1) cause bad.cause bad.fault_is in
    let P : Cause → Type 0 = λ c. IsCause c bad.line in
    record {
      front = bad.front;
      line = bad.line;
      rest = bad.rest;
      split = bad.split;
      place = same.0;
      right = bad.right;
      counted = bad.counted;
      holds = subst P (sym same.1) bad.holds;
    }

-- A text that is read is a script of these lines.
pub script_read : (text : List ℕ) (found : List Line) → reading_from 1 (lines text) ≡ Ok found → IsScript text found
script_read text found h = said_from 1 (lines text) found h

-- A text that is not read is no script, and its first bad line is named.
pub script_refused : (text : List ℕ) (fault : ScriptFault) → reading_from 1 (lines text) ≡ Err fault → Explains text fault
script_refused text OutOfMemory h = tt
script_refused text (BadScript number cause) h =
    let bad = first_bad_from 1 (lines text) (BadScript number cause) h in
    (explained text number cause bad, λ found said. let o = read_from 1 (lines text) found said in cc)

-- No other line is the first bad one, and no other cause holds of it.
pub script_one_fault : (text : List ℕ) (fault : ScriptFault) → reading_from 1 (lines text) ≡ Err fault → IsOneFault text fault
script_one_fault text OutOfMemory h = tt
script_one_fault text (BadScript number cause) h = λ other reason bad.
    let named = script_refused text (BadScript number cause) h in
    one_first_bad text number other cause reason named.0 bad

-- A script has no other lines than those that are read.
pub script_one : (text : List ℕ) (found : List Line) → reading_from 1 (lines text) ≡ Ok found → (others : List Line) → IsScript text others → others ≡ found
script_one text found h others said = let o = read_from 1 (lines text) others said in cc

-- The end of a text.
pub read_whole : (number : ℕ) (text rest : List ℕ) (found : List Line) → length rest ≡ 0 → lines_then found (reading_from number (lines rest)) ≡ reading_from 1 (lines text) → reading_from 1 (lines text) ≡ Ok found
read_whole number text [] found empty h = sym h ∙ ap (λ (xs : List Line). read_lines xs) (append-nil found)
read_whole number text (byte ∷ rest) found empty h = absurd (omega arith)

-- Reading goes on only after a line that is right.
found_more : (old : List Line) (more : LinesOrFault) (found : List Line) → lines_then old more ≡ Ok found → (rest : List Line) × (more ≡ Ok rest)
found_more old (Err fault) found h = absurd (cc)
found_more old (Ok rest) found h = (rest, refl)

right_line : (number : ℕ) (line : List ℕ) (found : List Line) → SayFrom number (line ∷ []) found → IsRightLine line
right_line number line found (inl passed) = inl passed.0
right_line number line found (inr said) = inr (said.0, said.3)

read_on_right : (number : ℕ) (line : List ℕ) (old new : List Line) → ReadsOn number line old new → IsRightLine line
read_on_right number line old new on =
    let (found, read) = found_more old (reading_from number (line ∷ [])) (new ++ []) (on []) in
    right_line number line found (said_from number (line ∷ []) found read)

all_more : (front : List (List ℕ)) (line : List ℕ) → AllByRecursion IsRightLine front → IsRightLine line → AllByRecursion IsRightLine (front ++ line ∷ [])
all_more [] line all right = (right, tt)
all_more (first ∷ front) line all right = (all.0, all_more front line all.1 right)

-- The lines of a text before the rest of it are right.
pub record IsRightUpTo (text rest : List ℕ) : Type 0 where
  pub front : List (List ℕ)
  pub split : lines text ≡ front ++ lines rest
  pub right : AllByRecursion IsRightLine front

pub right_at_start : (text : List ℕ) → IsRightUpTo text text
right_at_start text = record { front = []; split = refl; right = tt }

pub right_up_to : (number : ℕ) (text rest line after : List ℕ) (old new : List Line) → IsRightUpTo text rest → lines rest ≡ line ∷ lines after → ReadsOn number line old new → IsRightUpTo text after
right_up_to number text rest line after old new before first on = record {
  front = before.front ++ line ∷ [];
  split = before.split ∙ (ap (λ (ls : List (List ℕ)). before.front ++ ls) first ∙ sym (append_assoc before.front (line ∷ []) (lines after)));
  right = all_more before.front line before.right (read_on_right number line old new on);
}

-- What is read after one more line.
pub read_more : (number : ℕ) (text rest line after : List ℕ) (old new : List Line) → lines_then old (reading_from (number + 1) (lines rest)) ≡ reading_from 1 (lines text) → lines rest ≡ line ∷ lines after
    → ReadsOn (number + 1) line old new → lines_then new (reading_from (number + 1 + 1) (lines after)) ≡ reading_from 1 (lines text)
read_more number text rest line after old new before first on =
    sym (on (lines after)) ∙ (ap (λ (ls : List (List ℕ)). lines_then old (reading_from (number + 1) ls)) (sym first) ∙ before)

read_command : (r : Result Command Cause) → IsOk r → (command : Command) × (r ≡ Ok command)
read_command (Ok command) is = (command, refl)
read_command (Err cause) is = absurd (cc)

-- Memory was refused at the first line of the rest.
pub right_so_far : (text rest line after : List ℕ) → IsRightUpTo text rest → lines rest ≡ line ∷ lines after → GivesCommand line → IsRightSoFar text
right_so_far text rest line after before first gives =
    let (command, read) = read_command (command_of_line line) gives.1 in
    record {
      front = before.front;
      line = line;
      rest = lines after;
      split = before.split ∙ ap (λ (ls : List (List ℕ)). before.front ++ ls) first;
      right = before.right;
      command = command;
      says = line_said line command gives.0 read;
    }

-- An error that was handed on is the one that was returned.
pub handed_is : {A E : Type 0} (r : Result A E) (e other : E) → IsErrAnd r (λ y. y ≡ e) → r ≡ Err other → e ≡ other
handed_is (Ok x) e other given is = absurd given
handed_is (Err y) e other given is = sym given ∙ cc

-- The laws of `read_script`.
pub ruleset reading = (script_read, script_one, script_refused, script_one_fault, right_at_start)
