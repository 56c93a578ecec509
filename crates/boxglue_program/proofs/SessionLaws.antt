-- Lines that are run and answered one after the other.
use Rattle.std.proofs.Common.{◌≡◌, ◌+◌, ◌&&◌, ◌∷◌, ◌<◌, ℕ, suc, Bool, true, false, List, [], ◌++◌, length, take, Option, Some, None, refl, sym, append_assoc, arith, ◌∙◌, ap, subst}
use Rattle.std.specs.Prelude.{is_ok}
use Rattle.std.specs.List.{list_all}
use Rattle.std.specs.Io.KnownBytes.{Appends, Keeps}
use Rattle.std.proofs.lemmas.List.{append-nil, length-append, take-append-le}
use Rattle.std.proofs.lemmas.List.Folds.{list_all-append}
use Rattle.std.proofs.Math.Bool.{and-true}
use Rattle.job_machine.specs.declared.command.Command.{Command as ACommand}
use Rattle.job_machine.specs.Reply.{Reply}
use Rattle.dvi_write.proofs.Writings.{goes_further, goes_not}
use Rattle.job_core.specs.Jobs.{RunsTo, writing_of}
use Rattle.job_core.proofs.WholeRuns.{runs_joined, no_run}
use Rattle.boxglue_script.specs.declared.script.Line.{Line}
use Rattle.boxglue_script.specs.declared.line_content.LineContent.{LineContent}
use Rattle.boxglue_script.specs.declared.line_content.LineContent.TheVariants.{Nothing, Command, Bad}
use Rattle.boxglue_script.specs.LineContents.{SayEach, lines_of_contents, has_no_bad}
use Rattle.boxglue_script.proofs.LineContentLaws.{say_joined}
use Rattle.boxglue_program.specs.Texts.{answer_line, script_refusal_text}
use Rattle.boxglue_program.specs.Runs.{commands_of}
use Rattle.boxglue_program.specs.Sessions.{session_text, are_accepted, IsSent, DialogView, AnswersLines}
use Rattle.boxglue_program.proofs.WritingLemmas.{appends_both, appends_keeps}

pub commands_joined : (front rest : List Line) → commands_of (front ++ rest) ≡ commands_of front ++ commands_of rest
commands_joined [] rest = refl
commands_joined (line ∷ front) rest = ap (λ (commands : List ACommand). line.command ∷ commands) (commands_joined front rest)

same_number : (number : ℕ) → number ≡ number + 0
same_number number = omega arith

-- The number of the line after a first one and those that follow it.
next_number : (number : ℕ) (first : List LineContent) (content : LineContent) → number + 1 + length first ≡ number + length (content ∷ first)
next_number number first content = omega arith

pub said_joined : (number : ℕ) (first second : List LineContent) → lines_of_contents number (first ++ second) ≡ lines_of_contents number first ++ lines_of_contents (number + length first) second
said_joined number [] second = ap (λ (n : ℕ). lines_of_contents n second) (same_number number)
said_joined number (Nothing ∷ first) second = said_joined (number + 1) first second ∙ ap (λ (n : ℕ). lines_of_contents (number + 1) first ++ lines_of_contents n second) (next_number number first Nothing)
said_joined number (Command command ∷ first) second =
    ap (λ (ls : List Line). record { number = number; command = command } ∷ ls)
    (said_joined (number + 1) first second ∙ ap (λ (n : ℕ). lines_of_contents (number + 1) first ++ lines_of_contents n second) (next_number number first (Command command)))
said_joined number (Bad cause ∷ first) second = said_joined (number + 1) first second ∙ ap (λ (n : ℕ). lines_of_contents (number + 1) first ++ lines_of_contents n second) (next_number number first (Bad cause))

pub text_joined : (number : ℕ) (first second : List LineContent) (replies others : List Reply) → length replies ≡ length (lines_of_contents number first)
    → session_text number (first ++ second) (replies ++ others) ≡ session_text number first replies ++ session_text (number + length first) second others
text_joined number [] second [] others each = ap (λ (n : ℕ). session_text n second others) (same_number number)
text_joined number [] second (reply ∷ replies) others each = absurd (omega (arith, each))
text_joined number (Nothing ∷ first) second replies others each =
    text_joined (number + 1) first second replies others each
    ∙ ap (λ (n : ℕ). session_text (number + 1) first replies ++ session_text n second others) (next_number number first Nothing)
text_joined number (Command command ∷ first) second [] others each = absurd (omega (arith, each))
text_joined number (Command command ∷ first) second (reply ∷ replies) others each =
    ap (λ (text : List ℕ). answer_line number reply ++ text)
    (text_joined (number + 1) first second replies others (omega (arith, each))
    ∙ ap (λ (n : ℕ). session_text (number + 1) first replies ++ session_text n second others) (next_number number first (Command command)))
    ∙ sym (append_assoc (answer_line number reply) (session_text (number + 1) first replies) (session_text (number + length (Command command ∷ first)) second others))
text_joined number (Bad cause ∷ first) second replies others each =
    ap (λ (text : List ℕ). script_refusal_text number cause ++ text)
    (text_joined (number + 1) first second replies others each
    ∙ ap (λ (n : ℕ). session_text (number + 1) first replies ++ session_text n second others) (next_number number first (Bad cause)))
    ∙ sym (append_assoc (script_refusal_text number cause) (session_text (number + 1) first replies) (session_text (number + length (Bad cause ∷ first)) second others))

no_bad_joined : (first second : List LineContent) → has_no_bad (first ++ second) ≡ (has_no_bad first && has_no_bad second)
no_bad_joined [] second = refl
no_bad_joined (Nothing ∷ first) second = no_bad_joined first second
no_bad_joined (Command command ∷ first) second = no_bad_joined first second
no_bad_joined (Bad cause ∷ first) second = refl

both_pairs : (a b c d : Bool) → ((a && b) && (c && d)) ≡ ((a && c) && (b && d))
both_pairs true true c d = refl
both_pairs true false true d = refl
both_pairs true false false d = refl
both_pairs false b c d = refl

pub and_grouped : (a b c : Bool) → ((a && b) && c) ≡ (a && (b && c))
and_grouped true b c = refl
and_grouped false b c = refl

accepted_joined : (first second : List LineContent) (replies others : List Reply) → are_accepted (first ++ second) (replies ++ others) ≡ (are_accepted first replies && are_accepted second others)
accepted_joined first second replies others =
    ap (λ (b : Bool). b && list_all is_ok (replies ++ others)) (no_bad_joined first second)
    ∙ (ap (λ (b : Bool). (has_no_bad first && has_no_bad second) && b) (list_all-append is_ok replies others)
    ∙ both_pairs (has_no_bad first) (has_no_bad second) (list_all is_ok replies) (list_all is_ok others))

pub said_size : (all : List (List ℕ)) (contents : List LineContent) → SayEach all contents → length contents ≡ length all
said_size [] [] says = refl
said_size [] (s ∷ contents) says = absurd says
said_size (line ∷ all) [] says = absurd says
said_size (line ∷ all) (s ∷ contents) says = ap suc (said_size all contents says.1)

-- No line was run.
pub none_answered : (old : DialogView) → AnswersLines old [] [] old
none_answered old = record {
  contents = [];
  replies = [];
  says = tt;
  ran = no_run old.job;
  each = refl;
  answers_are = refl;
  counted = omega arith;
  accepted = sym (and-true old.accepted);
  goes_on = goes_not (writing_of old.job);
}

-- Lines were run, and then others.
pub answered_both : (old middle new : DialogView) (all more : List (List ℕ)) (answers others : List ℕ)
    → AnswersLines old all answers middle → AnswersLines middle more others new → AnswersLines old (all ++ more) (answers ++ others) new
answered_both old middle new all more answers others first second =
    let number = old.lines + 1 in
    let count : middle.lines + 1 ≡ number + length first.contents = omega (arith, first.counted, said_size all first.contents first.says) in
    let sizes : length first.replies + length second.replies ≡ length (lines_of_contents number first.contents) + length (lines_of_contents (middle.lines + 1) second.contents) = omega (arith, first.each, second.each) in
    let lines_are : lines_of_contents number (first.contents ++ second.contents) ≡ lines_of_contents number first.contents ++ lines_of_contents (middle.lines + 1) second.contents =
    said_joined number first.contents second.contents ∙ ap (λ (n : ℕ). lines_of_contents number first.contents ++ lines_of_contents n second.contents) (sym count) in
    record {
      contents = first.contents ++ second.contents;
      replies = first.replies ++ second.replies;
      says = say_joined all more first.contents second.contents first.says second.says;
      ran = subst (λ (commands : List ACommand). RunsTo old.job commands (first.replies ++ second.replies) new.job)
          (sym (ap commands_of lines_are ∙ commands_joined (lines_of_contents number first.contents) (lines_of_contents (middle.lines + 1) second.contents)))
          (runs_joined old.job middle.job new.job (commands_of (lines_of_contents number first.contents)) (commands_of (lines_of_contents (middle.lines + 1) second.contents)) first.replies second.replies first.ran second.ran);
      each =
          length-append first.replies second.replies
          ∙ (sizes
          ∙ (sym (length-append (lines_of_contents number first.contents) (lines_of_contents (middle.lines + 1) second.contents)) ∙ sym (ap length lines_are)));
      answers_are =
          ap (λ (text : List ℕ). text ++ others) first.answers_are
          ∙ (ap (λ (text : List ℕ). session_text number first.contents first.replies ++ text) (second.answers_are ∙ ap (λ (n : ℕ). session_text n second.contents second.replies) count)
          ∙ sym (text_joined number first.contents second.contents first.replies second.replies first.each));
      counted = omega (arith, first.counted, second.counted, length-append all more);
      accepted =
          second.accepted
          ∙ (ap (λ (b : Bool). b && are_accepted second.contents second.replies) first.accepted
          ∙ (and_grouped old.accepted (are_accepted first.contents first.replies) (are_accepted second.contents second.replies)
          ∙ ap (λ (b : Bool). old.accepted && b) (sym (accepted_joined first.contents second.contents first.replies second.replies))));
      goes_on = goes_further (writing_of old.job) (writing_of middle.job) (writing_of new.job) first.goes_on second.goes_on;
    }

-- The same lines and answers.
pub same_answered : (old new : DialogView) (all others : List (List ℕ)) (answers : List ℕ) → others ≡ all → AnswersLines old all answers new → AnswersLines old others answers new
same_answered old new all others answers same ran = subst (λ (ls : List (List ℕ)). AnswersLines old ls answers new) (sym same) ran

take_past : (text more : List ℕ) (n : ℕ) → text ++ take n more ≡ take (length text + n) (text ++ more)
take_past [] more n = ap (λ (k : ℕ). take k more) (omega arith)
take_past (byte ∷ text) more n =
    let size : suc (length text + n) ≡ length (byte ∷ text) + n = omega arith in
    ap (λ (rest : List ℕ). byte ∷ rest) (take_past text more n) ∙ ap (λ (k : ℕ). take k (byte ∷ (text ++ more))) size

take_within : (text more : List ℕ) (n : ℕ) → n < length text → take n text ≡ take n (text ++ more)
take_within text more n less = sym (take-append-le n text more (omega (arith, less)))

pub keeps_both : (old middle new : Option (List ℕ)) → Keeps old middle → Keeps middle new → Keeps old new
keeps_both None middle new h k = tt
keeps_both (Some xs) None new h k = absurd h
keeps_both (Some xs) (Some ys) None h k = absurd k
keeps_both (Some xs) (Some ys) (Some zs) h k = k ∙ h

-- What was sent, and then more.
pub sent_both : (a b c : Bool) (old middle new : Option (List ℕ)) (text more : List ℕ) → IsSent a b old middle text → IsSent b c middle new more → IsSent a c old new (text ++ more)
sent_both true true true old middle new text more h k = appends_both old middle new text more h k
sent_both true true false old middle new text more h (n, less, k) =
    (length text + n, omega (arith, length-append text more, less), subst (Appends old new) (take_past text more n) (appends_both old middle new text (take n more) h k))
sent_both true false true old middle new text more h k = absurd k
sent_both true false false old middle new text more (n, less, h) k =
    (n, omega (arith, length-append text more, less), subst (Appends old new) (take_within text more n less) (appends_keeps old middle new (take n text) h k))
sent_both false true c old middle new text more h k = absurd h
sent_both false false true old middle new text more h k = absurd k
sent_both false false false old middle new text more h k = keeps_both old middle new h k

pub kept_as : (old : Option (List ℕ)) → Keeps old old
kept_as None = tt
kept_as (Some bytes) = refl

-- Nothing was sent.
pub sent_none : (reads : Bool) (old : Option (List ℕ)) → IsSent reads reads old old []
sent_none true None = tt
sent_none true (Some bytes) = sym (append-nil bytes)
sent_none false old = kept_as old
