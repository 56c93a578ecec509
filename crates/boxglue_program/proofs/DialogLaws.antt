-- One line that is run and answered, and what is sent.
use Rattle.std.proofs.Common.{◌≡◌, ◌<◌, ◌⊎◌, ◌+◌, ◌&&◌, ◌∷◌, inl, inr, ℕ, Bool, true, false, List, [], ◌++◌, length, Option, refl, sym, append_assoc, arith, ◌∙◌, ap, subst}
use Rattle.std.specs.Prelude.{is_ok, Result, Ok, Err, OnOk, OnErr}
use Rattle.std.specs.Io.KnownBytes.{Appends}
use Rattle.std.specs.Str.Lines.{lines}
use Rattle.std.proofs.lemmas.List.{append-nil}
use Rattle.job_machine.specs.Reply.{Reply}
use Rattle.dvi_write.specs.Writing.{GoesOn}
use Rattle.dvi_write.proofs.Writings.{goes_not}
use Rattle.job_core.specs.Jobs.{JobView, RunsTo, writing_of}
use Rattle.job_core.proofs.WholeRuns.{no_run}
use Rattle.boxglue_script.specs.declared.cause.Cause.{Cause}
use Rattle.boxglue_script.specs.declared.line_content.LineContent.TheVariants.{Nothing, Command, Bad}
use Rattle.boxglue_script.specs.ScriptLines.{is_passed_over}
use Rattle.boxglue_script.specs.Causes.{IsCause}
use Rattle.boxglue_script.specs.Script.{IsPassedOver, SaysLine}
use Rattle.boxglue_script.specs.LineContents.{IsWhole}
use Rattle.boxglue_script.proofs.LineLemmas.{Splits, lines_joined}
use Rattle.boxglue_script.specs.declared.script.Line.{Line}
use Rattle.boxglue_program.specs.declared.outcome.Outcome.{Outcome}
use Rattle.boxglue_program.specs.Outcomes.{is_accepting, replies_outcome}
use Rattle.boxglue_program.specs.Texts.{answer_line, answer_lines, script_refusal_text}
use Rattle.boxglue_program.specs.Runs.{WritesFront, commands_of, line_numbers}
use Rattle.boxglue_program.specs.Sessions.{DialogView, AnswersLines, StopsIn, IsSent}
use Rattle.boxglue_program.specs.Private.Dialogs.{dialog_of, OutboxView, outbox_of, Sends, StopsAfterLines}
use Rattle.boxglue_program.proofs.OutcomeLaws.{accepting_all}
use Rattle.boxglue_program.proofs.SessionLaws.{answered_both, none_answered, sent_both, sent_none, same_answered}

-- A line that is passed over.
pub nothing_answered : (job : JobView) (before : ℕ) (line : List ℕ) → IsPassedOver line → AnswersLines (dialog_of job before true) (line ∷ []) [] (dialog_of job (before + 1) true)
nothing_answered job before line says = record {
  contents = Nothing ∷ [];
  replies = [];
  says = (says, tt);
  ran = no_run job;
  each = refl;
  answers_are = refl;
  counted = omega arith;
  accepted = refl;
  goes_on = goes_not (writing_of job);
}

-- A line whose command was run.
pub command_answered : (old new : JobView) (before : ℕ) (line : List ℕ) (given : Line) (run : List Line) (replies : List Reply) (outcome : Outcome) (accepted : Bool) → SaysLine line given.command
    → given.number ≡ before + 1 → run ≡ given ∷ [] → RunsTo old (commands_of run) replies new → length replies ≡ length run → outcome ≡ replies_outcome replies → accepted ≡ is_accepting outcome
    → GoesOn (writing_of old) (writing_of new)
    → AnswersLines (dialog_of old before true) (line ∷ []) (answer_lines (line_numbers run) replies) (dialog_of new (before + 1) accepted)
command_answered old new before line given run [] outcome accepted says number is ran each outcome_is fine goes = absurd (omega (arith, each, ap length is))
command_answered old new before line given run (reply ∷ other ∷ more) outcome accepted says number is ran each outcome_is fine goes = absurd (omega (arith, each, ap length is))
command_answered old new before line given run (reply ∷ []) outcome accepted says number is ran each outcome_is fine goes = record {
  contents = Command given.command ∷ [];
  replies = reply ∷ [];
  says = (says, tt);
  ran = subst (λ (lines : List Line). RunsTo old (commands_of lines) (reply ∷ []) new) is ran;
  each = refl;
  answers_are = ap (λ (lines : List Line). answer_lines (line_numbers lines) (reply ∷ [])) is ∙ ap (λ (n : ℕ). answer_line n reply ++ []) number;
  counted = omega arith;
  accepted = fine ∙ (ap is_accepting outcome_is ∙ accepting_all (reply ∷ []));
  goes_on = goes;
}

-- A bad line.
pub bad_answered : (job : JobView) (before : ℕ) (line : List ℕ) (cause : Cause) → (is_passed_over line ≡ false) × IsCause cause line
    → AnswersLines (dialog_of job before true) (line ∷ []) (script_refusal_text (before + 1) cause) (dialog_of job (before + 1) false)
bad_answered job before line cause says = record {
  contents = Bad cause ∷ [];
  replies = [];
  says = (says, tt);
  ran = no_run job;
  each = refl;
  answers_are = sym (append-nil (script_refusal_text (before + 1) cause));
  counted = omega arith;
  accepted = refl;
  goes_on = goes_not (writing_of job);
}

-- Whether nothing was refused before counts too.
pub answered_after : (old new : JobView) (before next : ℕ) (all : List (List ℕ)) (text : List ℕ) (accepted fine : Bool) → AnswersLines (dialog_of old before true) all text (dialog_of new next fine)
    → AnswersLines (dialog_of old before accepted) all text (dialog_of new next (accepted && fine))
answered_after old new before next all text accepted fine ran = record {
  contents = ran.contents;
  replies = ran.replies;
  says = ran.says;
  ran = ran.ran;
  each = ran.each;
  answers_are = ran.answers_are;
  counted = ran.counted;
  accepted = ap (λ (b : Bool). accepted && b) ran.accepted;
  goes_on = ran.goes_on;
}

-- Nothing was sent, and nothing waits that did not.
pub sends_none : (outbox : OutboxView) (old : Option (List ℕ)) → Sends outbox outbox old old []
sends_none outbox old = record { sent = []; split = append-nil outbox.waiting; is_sent = sent_none outbox.reads old }

-- A text was added.
pub sends_later : (waiting more text : List ℕ) (reads : Bool) (old : Option (List ℕ)) → more ≡ waiting ++ text → Sends (outbox_of waiting reads) (outbox_of more reads) old old text
sends_later waiting more text reads old is = record { sent = []; split = sym is; is_sent = sent_none reads old }

-- All that waits was sent.
pub sends_all : (waiting more : List ℕ) (reads now : Bool) (old new : Option (List ℕ)) → more ≡ [] → IsSent reads now old new waiting → Sends (outbox_of waiting reads) (outbox_of more now) old new []
sends_all waiting more reads now old new none sent = record { sent = waiting; split = ap (λ (text : List ℕ). waiting ++ text) (sym none); is_sent = sent }

-- One after the other.
pub sends_both : (a b c : OutboxView) (old middle new : Option (List ℕ)) (text more : List ℕ) → Sends a b old middle text → Sends b c middle new more → Sends a c old new (text ++ more)
sends_both a b c old middle new text more first second = record {
  sent = first.sent ++ second.sent;
  split =
      sym (append_assoc a.waiting text more)
      ∙ (ap (λ (l : List ℕ). l ++ more) first.split
      ∙ (append_assoc first.sent b.waiting more
      ∙ (ap (λ (l : List ℕ). first.sent ++ l) second.split
      ∙ sym (append_assoc first.sent second.sent c.waiting))));
  is_sent = sent_both a.reads b.reads c.reads old middle new first.sent second.sent first.is_sent second.is_sent;
}

-- The lines of a text up to the rest of it were run.
pub record RunsUpTo (text rest : List ℕ) (old : DialogView) (answers : List ℕ) (now : DialogView) : Type 0 where
  pub whole : List ℕ
  pub split : text ≡ whole ++ rest
  pub ends : IsWhole whole ⊎ (rest ≡ [])
  pub ran : AnswersLines old (lines whole) answers now

pub up_to_start : (text : List ℕ) (old : DialogView) → RunsUpTo text text old [] old
up_to_start text old = record { whole = []; split = refl; ends = inl (inl refl); ran = none_answered old }

filled : (rest : List ℕ) → rest ≡ [] → 0 < length rest → ⊥
filled rest none some = let size : length rest ≡ 0 = ap length none in omega (arith, size, some)

whole_of : (whole rest : List ℕ) → 0 < length rest → IsWhole whole ⊎ (rest ≡ []) → IsWhole whole
whole_of whole rest some (inl ends) = ends
whole_of whole rest some (inr none) = absurd (filled rest none some)

pub both_whole : (whole front : List ℕ) → IsWhole whole → IsWhole front → IsWhole (whole ++ front)
both_whole whole front first (inl none) = subst IsWhole (sym (ap (λ (l : List ℕ). whole ++ l) none ∙ append-nil whole)) first
both_whole whole front first (inr (before, is)) = inr (whole ++ before, ap (λ (l : List ℕ). whole ++ l) is ∙ sym (append_assoc whole before (10 ∷ [])))

pub ends_on : (whole front after : List ℕ) → IsWhole whole → IsWhole front ⊎ (after ≡ []) → IsWhole (whole ++ front) ⊎ (after ≡ [])
ends_on whole front after first (inl ends) = inl (both_whole whole front first ends)
ends_on whole front after first (inr none) = inr none

-- One more line was run.
pub up_to_more : (text rest line after answers more : List ℕ) (old now new : DialogView) → 0 < length rest → RunsUpTo text rest old answers now → Splits rest line after
    → AnswersLines now (line ∷ []) more new → RunsUpTo text after old (answers ++ more) new
up_to_more text rest line after answers more old now new some before (front, is, one, ends) ran =
    let whole = whole_of before.whole rest some before.ends in
    record {
      whole = before.whole ++ front;
      split = before.split ∙ (ap (λ (l : List ℕ). before.whole ++ l) is ∙ sym (append_assoc before.whole front after));
      ends = ends_on before.whole front after whole ends;
      ran = same_answered old new (lines before.whole ++ line ∷ []) (lines (before.whole ++ front)) (answers ++ more)
          (lines_joined before.whole front whole ∙ ap (λ (ls : List (List ℕ)). lines before.whole ++ ls) one)
          (answered_both old now new (lines before.whole) (line ∷ []) answers more before.ran ran);
    }

-- All lines were run.
pub up_to_end : (text rest answers : List ℕ) (old now : DialogView) → length rest ≡ 0 → RunsUpTo text rest old answers now → AnswersLines old (lines text) answers now
up_to_end text [] answers old now none before =
    same_answered old now (lines before.whole) (lines text) answers (ap lines (before.split ∙ append-nil before.whole)) before.ran
up_to_end text (byte ∷ rest) answers old now none before = absurd (omega (arith, none))

-- The lines up to the rest were run, and then it stopped.
pub stops_after : (text rest answers : List ℕ) (old now new : DialogView) → RunsUpTo text rest old answers now → new ≡ now → StopsIn text old answers new
stops_after text rest answers old now new before same = record {
  whole = before.whole;
  rest = rest;
  split = before.split;
  ends = before.ends;
  ran = subst (λ (d : DialogView). AnswersLines old (lines before.whole) answers d) (sym same) before.ran;
}

-- All lines were run, and then it stopped.
pub stops_at_end : (text answers : List ℕ) (old now new : DialogView) → AnswersLines old (lines text) answers now → new ≡ now → StopsIn text old answers new
stops_at_end text answers old now new ran same =
    record { whole = text; rest = []; split = sym (append-nil text); ends = inr refl; ran = subst (λ (d : DialogView). AnswersLines old (lines text) answers d) (sym same) ran }

whole_text : (text whole rest : List ℕ) → IsWhole text → text ≡ whole ++ rest → IsWhole whole ⊎ (rest ≡ []) → IsWhole whole
whole_text text whole rest all split (inl ends) = ends
whole_text text whole rest all split (inr none) = subst IsWhole (split ∙ (ap (λ (l : List ℕ). whole ++ l) none ∙ append-nil whole)) all

-- What follows whole lines in which it stopped.
pub stops_further : (text more answers : List ℕ) (old new : DialogView) → IsWhole text → StopsIn text old answers new → StopsAfterLines (text ++ more) old answers new
stops_further text more answers old new all stops =
    let whole = whole_text text stops.whole stops.rest all stops.split stops.ends in (
      record {
        whole = stops.whole;
        rest = stops.rest ++ more;
        split = ap (λ (l : List ℕ). l ++ more) stops.split ∙ append_assoc stops.whole stops.rest more;
        ends = inl whole;
        ran = stops.ran;
      },
      whole,
    )

-- Nothing of a text was run.
pub stops_at_once : (text : List ℕ) (old : DialogView) → StopsAfterLines text old [] old
stops_at_once text old = (record { whole = []; rest = text; split = refl; ends = inl (inl refl); ran = none_answered old }, inl refl)

-- All whole lines were run, and what follows was not kept.
pub stops_at_rest : (whole rest answers : List ℕ) (old now : DialogView) → IsWhole whole → AnswersLines old (lines whole) answers now → StopsAfterLines (whole ++ rest) old answers now
stops_at_rest whole rest answers old now ends ran =
    (record { whole = whole; rest = rest; split = refl; ends = inl ends; ran = ran }, ends)

-- A text was written to a client that reads, or a beginning of it.
pub sent_by_result : {A E : Type 0} (r : Result A E) (ok : Bool) (old new : Option (List ℕ)) (text : List ℕ) → ok ≡ is_ok r → OnOk r (Appends old new text) → OnErr r (WritesFront old new text) → IsSent true ok old new text
sent_by_result (Ok x) ok old new text is all front = subst (λ (b : Bool). IsSent true b old new text) (sym is) all
sent_by_result (Err e) ok old new text is all front = subst (λ (b : Bool). IsSent true b old new text) (sym is) front

-- What waited was sent or stayed, and a line was added.
pub sends_line : (a b c : OutboxView) (old middle new : Option (List ℕ)) (text more now : List ℕ) → Sends a b old middle text → Sends b c middle new [] → now ≡ c.waiting ++ more
    → Sends a (outbox_of now c.reads) old new (text ++ more)
sends_line a b c old middle new text more now first second is =
    let here = sends_both a b c old middle new text [] first second in
    let there = sends_both a c (outbox_of now c.reads) old new new (text ++ []) more here (sends_later c.waiting now more c.reads new is) in
    subst (λ (l : List ℕ). Sends a (outbox_of now c.reads) old new (l ++ more)) (append-nil text) there

-- What waited was sent or stayed, and nothing was added.
pub sends_no_line : (a b c : OutboxView) (old middle new : Option (List ℕ)) (text now : List ℕ) → Sends a b old middle text → Sends b c middle new [] → now ≡ c.waiting
    → Sends a (outbox_of now c.reads) old new text
sends_no_line a b c old middle new text now first second is =
    subst (λ (l : List ℕ). Sends a (outbox_of now c.reads) old new l) (append-nil text)
    (sends_line a b c old middle new text [] now first second (is ∙ sym (append-nil c.waiting)))

-- Where nothing waited at first and all that waited was sent at last, the text was sent.
pub sent_all : (a b : OutboxView) (reads : Bool) (old middle new : Option (List ℕ)) (text : List ℕ) → a.waiting ≡ [] → Sends a b old middle text → IsSent b.reads reads middle new b.waiting → IsSent a.reads reads old new text
sent_all a b reads old middle new text none sends sent =
    let same : text ≡ sends.sent ++ b.waiting = ap (λ (l : List ℕ). l ++ text) (sym none) ∙ sends.split in
    subst (λ (l : List ℕ). IsSent a.reads reads old new l) (sym same) (sent_both a.reads b.reads reads old middle new sends.sent b.waiting sends.is_sent sent)

-- A text was sent, and then nothing more.
pub sent_no_more : (a b c : Bool) (old middle new : Option (List ℕ)) (text : List ℕ) → IsSent a b old middle text → IsSent b c middle new [] → IsSent a c old new text
sent_no_more a b c old middle new text sent none =
    subst (λ (l : List ℕ). IsSent a c old new l) (append-nil text) (sent_both a b c old middle new text [] sent none)

-- All that was added where nothing waited was sent.
pub sent_added : (reads now : Bool) (old new : Option (List ℕ)) (waiting added text : List ℕ) → waiting ≡ [] → added ≡ waiting ++ text → IsSent reads now old new added → IsSent reads now old new text
sent_added reads now old new waiting added text none is sent =
    subst (λ (l : List ℕ). IsSent reads now old new l) (is ∙ ap (λ (l : List ℕ). l ++ text) none) sent

pub both_err : {A E : Type 0} {P Q R : Type 0} (r : Result A E) → (P → Q → R) → OnErr r P → OnErr r Q → OnErr r R
both_err (Ok x) f p q = p
both_err (Err e) f p q = f p q
