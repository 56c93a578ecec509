-- A session and a script that is run as a whole, and a session in pieces.
use Rattle.std.proofs.Common.{◌≡◌, ◌+◌, ◌&&◌, ◌∷◌, ℕ, suc, Bool, true, List, [], ◌++◌, length, take, drop, take-append-drop, length-take-le, length-append, Option, Result, refl, sym, arith, ◌∙◌, ap, subst}
use Rattle.std.specs.Str.Lines.{lines}
use Rattle.std.proofs.lemmas.List.{length-map}
use Rattle.job_machine.specs.declared.command.Command.{Command as ACommand}
use Rattle.job_machine.specs.declared.replies.Refusal.{Refusal}
use Rattle.page_core.specs.declared.summary.Summary.{Summary}
use Rattle.job_machine.specs.Reply.{Reply}
use Rattle.tfm_core.specs.NamedBytes.{NamedBytes}
use Rattle.job_machine.specs.Machine.{Machine, first_machine}
use Rattle.job_machine.specs.Runs.{Run}
use Rattle.job_core.specs.Headline.{WasRun, WasRunAndSent}
use Rattle.boxglue_script.specs.declared.script.Line.{Line}
use Rattle.boxglue_script.specs.declared.line_content.LineContent.{LineContent}
use Rattle.boxglue_script.specs.declared.line_content.LineContent.TheVariants.{Nothing, Command, Bad}
use Rattle.boxglue_script.specs.Script.{IsScript}
use Rattle.boxglue_script.specs.LineContents.{SayEach, IsWhole, lines_of_contents, has_no_bad}
use Rattle.boxglue_script.proofs.LineLemmas.{lines_joined}
use Rattle.boxglue_script.proofs.LineContentLaws.{each_one, say_in_pieces, say_one, script_said}
use Rattle.boxglue_program.specs.Reports.{written_bytes}
use Rattle.boxglue_program.specs.Texts.{answer_line, answer_lines, answers_text, end_line}
use Rattle.boxglue_program.specs.Runs.{commands_of, line_numbers, is_accepted, RanScript}
use Rattle.boxglue_program.specs.Sessions.{session_text, DialogView, AnswersLines, RanSession}
use Rattle.boxglue_program.proofs.SessionLaws.{answered_both, said_joined, same_answered, text_joined}

-- A run has a reply for each command.
run_size : (m : Machine) (n : ℕ) (commands : List ACommand) (replies : List Reply) (next : Machine) (k : ℕ) → Run m n commands replies next k
    → length replies ≡ length commands
run_size m n [] [] next k run = refl
run_size m n [] (reply ∷ replies) next k run = absurd run
run_size m n (command ∷ commands) [] next k run = absurd run
run_size m n (command ∷ commands) (reply ∷ replies) next k run = ap suc (run_size run.0 run.1 commands replies next k run.3)

each_replied : (files : List NamedBytes) (n k : ℕ) (found : List Line) (replies : List Reply) (end : Result Summary Refusal)
    (bytes_written : Option (List ℕ))
    → WasRun files n (commands_of found) replies end k bytes_written → length replies ≡ length found
each_replied files n k found replies end bytes_written run =
    run_size (first_machine files) n (commands_of found) replies run.middle run.failed run.ran ∙ length-map found (λ (line : Line). line.command)

-- Where no line is bad, the answers are those to the commands.
answers_of_commands : (number : ℕ) (contents : List LineContent) (replies : List Reply) → has_no_bad contents ≡ true
    → length replies ≡ length (lines_of_contents number contents)
    → session_text number contents replies ≡ answer_lines (line_numbers (lines_of_contents number contents)) replies
answers_of_commands number [] [] good each = refl
answers_of_commands number [] (reply ∷ replies) good each = absurd (omega (arith, each))
answers_of_commands number (Nothing ∷ contents) replies good each = answers_of_commands (number + 1) contents replies good each
answers_of_commands number (Command command ∷ contents) [] good each = absurd (omega (arith, each))
answers_of_commands number (Command command ∷ contents) (reply ∷ replies) good each =
    ap (λ (text : List ℕ). answer_line number reply ++ text) (answers_of_commands (number + 1) contents replies good (omega (arith, each)))
answers_of_commands number (Bad cause ∷ contents) replies good each = absurd (cc)

-- The answers of a session over a good script are the texts of its run.
pub script_texts : (text : List ℕ) (found : List Line) (contents : List LineContent) (replies : List Reply) (end : Result Summary Refusal)
    → IsScript text found → SayEach (lines text) contents → length replies ≡ length found
    → session_text 1 contents replies ++ end_line end ≡ answers_text (line_numbers found) replies end
unfolding answers_text
script_texts text found contents replies end script says each =
    let (is, good) = script_said 1 (lines text) found contents script says in
    ap (λ (l : List ℕ). l ++ end_line end)
    (answers_of_commands 1 contents replies good (each ∙ sym (ap length is)) ∙ ap (λ (ls : List Line). answer_lines (line_numbers ls) replies) is)

-- What a session over a good script did is a run of the script.
pub session_is_run : (text answer : List ℕ) (found : List Line) (files : List NamedBytes) (n k : ℕ) (bytes_written : Option (List ℕ))
    (accepted : Bool) → IsScript text found
    → RanSession written_bytes text files n k bytes_written answer accepted → RanScript written_bytes text files n k bytes_written answer accepted
session_is_run text answer found files n k bytes_written accepted script ran =
    let (is, good) = script_said 1 (lines text) found ran.contents script ran.says in
    let run : WasRunAndSent files n (commands_of found) ran.replies ran.end k bytes_written =
    subst (λ (ls : List Line). WasRunAndSent files n (commands_of ls) ran.replies ran.end k bytes_written) is (ran.run, ran.sent) in
    record {
      lines = found;
      replies = ran.replies;
      end = ran.end;
      script = script;
      run = run.0;
      sent = run.1;
      answer_is = ran.answer_is ∙ script_texts text found ran.contents ran.replies ran.end script ran.says
          (each_replied files n k found ran.replies ran.end bytes_written run.0);
      fine_is = ran.accepted_is ∙ ap (λ (b : Bool). b && is_accepted ran.replies ran.end) good;
    }

-- What a run of a script did is what a session over it does.
pub run_is_session : (text answer : List ℕ) (files : List NamedBytes) (n k : ℕ) (bytes_written : Option (List ℕ)) (accepted : Bool)
    → RanScript written_bytes text files n k bytes_written answer accepted → RanSession written_bytes text files n k bytes_written answer accepted
run_is_session text answer files n k bytes_written accepted ran =
    let one = say_one (lines text) in
    let (is, good) = script_said 1 (lines text) ran.lines one.0 ran.script one.1 in
    let run = subst (λ (ls : List Line). WasRunAndSent files n (commands_of ls) ran.replies ran.end k bytes_written) (sym is) (ran.run, ran.sent) in
    record {
      contents = one.0;
      replies = ran.replies;
      end = ran.end;
      says = one.1;
      run = run.0;
      sent = run.1;
      answer_is = ran.answer_is ∙ sym (script_texts text ran.lines one.0 ran.replies ran.end ran.script one.1
          (each_replied files n k ran.lines ran.replies ran.end bytes_written ran.run));
      accepted_is = ran.fine_is ∙ sym (ap (λ (b : Bool). b && is_accepted ran.replies ran.end) good);
    }

-- The answers to whole lines and to what follows them are those to the one and then those to the other.
pub texts_in_pieces : (text more : List ℕ) (first second contents : List LineContent) (replies : List Reply) → IsWhole text → SayEach (lines text) first
    → SayEach (lines more) second → SayEach (lines (text ++ more)) contents
    → length replies ≡ length (lines_of_contents 1 contents)
    → session_text 1 contents replies ≡ session_text 1 first (take (length (lines_of_contents 1 first)) replies) ++ session_text (length first + 1) second
    (drop (length (lines_of_contents 1 first)) replies)
texts_in_pieces text more first second contents replies whole says then_says all_say each =
    let count = length (lines_of_contents 1 first) in
    let front = take count replies in
    let rest = drop count replies in
    let is : contents ≡ first ++ second =
    each_one (lines (text ++ more)) (first ++ second) contents (say_in_pieces text more first second whole says then_says) all_say in
    let sizes : length replies ≡ count + length (lines_of_contents (1 + length first) second) =
    each
    ∙ (ap (λ (s : List LineContent). length (lines_of_contents 1 s)) is
    ∙ (ap length (said_joined 1 first second) ∙ length-append (lines_of_contents 1 first) (lines_of_contents (1 + length first) second))) in
    let next : 1 + length first ≡ length first + 1 = omega arith in
    ap (λ (s : List LineContent). session_text 1 s replies) is
    ∙ (ap (λ (all : List Reply). session_text 1 (first ++ second) all) (sym (take-append-drop count replies))
    ∙ (text_joined 1 first second front rest (length-take-le count replies (omega (arith, sizes)))
    ∙ ap (λ (number : ℕ). session_text 1 first front ++ session_text number second rest) next))

-- Lines that were run in two pieces were run.
pub runs_in_pieces : (old middle new : DialogView) (text more answers others : List ℕ) → IsWhole text → AnswersLines old (lines text) answers middle
    → AnswersLines middle (lines more) others new
    → AnswersLines old (lines (text ++ more)) (answers ++ others) new
runs_in_pieces old middle new text more answers others whole first second =
    same_answered old new (lines text ++ lines more) (lines (text ++ more)) (answers ++ others) (lines_joined text more whole)
    (answered_both old middle new (lines text) (lines more) answers others first second)
