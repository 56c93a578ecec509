-- A session from its beginning to its end.
use Rattle.std.proofs.Common.{◌≡◌, ◌⊎◌, ◌<◌, ◌≤◌, ◌+◌, ◌-◌, ◌&&◌, ◌∷◌, inl, inr, ℕ, zero, suc, get_or, take, drop, drop-cons, Bool, List, [], ◌++◌, length, Option, refl, sym, append_assoc, arith, ◌∙◌, ap, subst}
use Rattle.std.specs.Prelude.{is_ok, Contains}
use Rattle.std.specs.List.{list_all}
use Rattle.std.specs.Str.Lines.{lines}
use Rattle.std.proofs.lemmas.List.{length-append, take_more}
use Rattle.tfm_core.specs.NamedBytes.{NamedBytes}
use Rattle.job_machine.specs.Machine.{first_machine}
use Rattle.job_machine.specs.Runs.{Run}
use Rattle.job_core.specs.Headline.{WasRunAndSent}
use Rattle.job_core.specs.Jobs.{JobView, Represents}
use Rattle.boxglue_script.specs.LineContents.{IsWhole, lines_of_contents, has_no_bad}
use Rattle.boxglue_script.proofs.LineLemmas.{lines_joined}
use Rattle.boxglue_program.specs.Reports.{written_bytes}
use Rattle.boxglue_program.specs.Texts.{end_line}
use Rattle.boxglue_program.specs.Runs.{commands_of}
use Rattle.boxglue_program.specs.Sessions.{session_text, are_accepted, IsSent, DialogView, AnswersLines, SessionView, Exchanges, StopsIn, IsNewSession, EndsSession, RanSession, StoppedSession, IsCutOff}
use Rattle.boxglue_program.proofs.SessionLaws.{answered_both, none_answered, same_answered, sent_both, sent_none, and_grouped}
use Rattle.boxglue_program.proofs.DialogLaws.{both_whole, ends_on}

-- What a session has done with what it has read so far.
pub record DoneSoFar (start now : SessionView) (text answers : List ℕ) (before after : Option (List ℕ)) : Type 0 where
  pub whole : List ℕ
  pub split : text ≡ whole ++ now.partial_line
  pub ends : IsWhole whole
  pub rest : Contains now.partial_line 10 → ⊥
  pub ran : AnswersLines start.dialog (lines whole) answers now.dialog
  pub sent : IsSent start.reads now.reads before after answers
  pub left : now.left + length text ≡ start.left

pub no_feed : (kept : List ℕ) → kept ≡ [] → Contains kept 10 → ⊥
no_feed kept none (k, inside, is) = let size : length kept ≡ 0 = ap length none in omega (arith, size, inside)

pub done_at_start : (start : SessionView) (before : Option (List ℕ)) → start.partial_line ≡ [] → DoneSoFar start start [] [] before before
done_at_start start before none = record {
  whole = [];
  split = sym none;
  ends = inl refl;
  rest = no_feed start.partial_line none;
  ran = none_answered start.dialog;
  sent = sent_none start.reads before;
  left = omega arith;
}

-- One more reading.
pub done_more : (start now new : SessionView) (text piece answers : List ℕ) (before middle after : Option (List ℕ))
    → DoneSoFar start now text answers before middle
    → (exchanged : Exchanges now piece new middle after) → DoneSoFar start new (text ++ piece) (answers ++ exchanged.answers) before after
done_more start now new text piece answers before middle after done exchanged = record {
  whole = done.whole ++ exchanged.whole;
  split =
      ap (λ (l : List ℕ). l ++ piece) done.split
      ∙ (append_assoc done.whole now.partial_line piece
      ∙ (ap (λ (l : List ℕ). done.whole ++ l) exchanged.split
      ∙ sym (append_assoc done.whole exchanged.whole new.partial_line)));
  ends = both_whole done.whole exchanged.whole done.ends exchanged.ends;
  rest = exchanged.rest;
  ran = same_answered start.dialog new.dialog (lines done.whole ++ lines exchanged.whole) (lines (done.whole ++ exchanged.whole))
      (answers ++ exchanged.answers)
      (lines_joined done.whole exchanged.whole done.ends)
      (answered_both start.dialog now.dialog new.dialog (lines done.whole) (lines exchanged.whole) answers exchanged.answers done.ran exchanged.ran);
  sent = sent_both start.reads now.reads new.reads before middle after answers exchanged.answers done.sent exchanged.sent;
  left = omega (arith, done.left, exchanged.left, length-append text piece);
}

-- All lines of the input were run.
ended : (start now : SessionView) (middle : DialogView) (text answers others : List ℕ) (before after : Option (List ℕ))
    → DoneSoFar start now text answers before after
    → AnswersLines now.dialog (lines now.partial_line) others middle → AnswersLines start.dialog (lines text) (answers ++ others) middle
ended start now middle text answers others before after done ran =
    same_answered start.dialog middle (lines done.whole ++ lines now.partial_line) (lines text) (answers ++ others)
    (ap lines done.split ∙ lines_joined done.whole now.partial_line done.ends)
    (answered_both start.dialog now.dialog middle (lines done.whole) (lines now.partial_line) answers others done.ran ran)

pub session_ran : (files : List NamedBytes) (n k : ℕ) (start now : SessionView) (text answers answer : List ℕ) (before after : Option (List ℕ))
    (bytes_written : Option (List ℕ)) (accepted : Bool)
    → IsNewSession files n start → DoneSoFar start now text answers before after → EndsSession now k bytes_written answer accepted
    → RanSession written_bytes text files n k bytes_written (answers ++ answer) accepted
session_ran files n k start now text answers answer before after bytes_written accepted new done ends =
    let all = ended start now ends.middle text answers ends.answers before after done ends.ran in
    let one : start.dialog.lines + 1 ≡ 1 = omega (arith, new.lines) in
    let ran = ends.run files start.dialog.job (commands_of (lines_of_contents (start.dialog.lines + 1) all.contents)) all.replies new.represents all.ran in
    let counted : WasRunAndSent files n (commands_of (lines_of_contents (start.dialog.lines + 1) all.contents)) all.replies ends.end k bytes_written =
    subst (λ (m : ℕ). WasRunAndSent files m (commands_of (lines_of_contents (start.dialog.lines + 1) all.contents)) all.replies ends.end k bytes_written) new.failed
    ran in
    let run = subst (λ (number : ℕ). WasRunAndSent files n (commands_of (lines_of_contents number all.contents)) all.replies ends.end k bytes_written) one counted in
    record {
      contents = all.contents;
      replies = all.replies;
      end = ends.end;
      says = all.says;
      run = run.0;
      sent = run.1;
      answer_is =
          ap (λ (l : List ℕ). answers ++ l) ends.answer_is
          ∙ (sym (append_assoc answers ends.answers (end_line ends.end))
          ∙ ap (λ (l : List ℕ). l ++ end_line ends.end) (all.answers_are ∙ ap (λ (number : ℕ). session_text number all.contents all.replies) one));
      accepted_is =
          ends.accepted_is
          ∙ (ap (λ (b : Bool). b && is_ok ends.end) (all.accepted ∙ ap (λ (b : Bool). b && are_accepted all.contents all.replies) new.accepted)
          ∙ and_grouped (has_no_bad all.contents) (list_all is_ok all.replies) (is_ok ends.end));
    }

-- The lines of a beginning of the input were run and answered, and nothing else was run.
stopped_after : (files : List NamedBytes) (n : ℕ) (start : SessionView) (all whole rest answers : List ℕ) (middle : DialogView) (job : JobView)
    → IsNewSession files n start → all ≡ whole ++ rest
    → IsWhole whole ⊎ (rest ≡ []) → AnswersLines start.dialog (lines whole) answers middle → job ≡ middle.job
    → StoppedSession written_bytes all files n job.failed job.bytes_written answers
stopped_after files n start all whole rest answers middle job new split ends ran is =
    let one : start.dialog.lines + 1 ≡ 1 = omega (arith, new.lines) in
    let commands = commands_of (lines_of_contents (start.dialog.lines + 1) ran.contents) in
    let last = ran.ran (first_machine files) new.represents in
    let counted : Run (first_machine files) n commands ran.replies last.0 middle.job.failed =
    subst (λ (m : ℕ). Run (first_machine files) m commands ran.replies last.0 middle.job.failed) new.failed last.1 in
    let numbered : Run (first_machine files) n (commands_of (lines_of_contents 1 ran.contents)) ran.replies last.0 middle.job.failed =
    subst (λ (number : ℕ). Run (first_machine files) n (commands_of (lines_of_contents number ran.contents)) ran.replies last.0 middle.job.failed) one counted in
    record {
      whole = whole;
      rest = rest;
      split = split;
      ends = ends;
      contents = ran.contents;
      replies = ran.replies;
      says = ran.says;
      machine = last.0;
      ran = subst (λ (j : JobView). Run (first_machine files) n (commands_of (lines_of_contents 1 ran.contents)) ran.replies last.0 j.failed) (sym is) numbered;
      sent = record { job = job; holds = subst (λ (j : JobView). Represents j last.0) (sym is) last.2; bytes_written_is = refl };
      answer_is = ran.answers_are ∙ ap (λ (number : ℕ). session_text number ran.contents ran.replies) one;
    }

-- It stopped somewhere in what followed.
pub session_stopped : (files : List NamedBytes) (n : ℕ) (start now : SessionView) (text all more answers others : List ℕ)
    (before after : Option (List ℕ)) (last : DialogView)
    → IsNewSession files n start → (done : DoneSoFar start now text answers before after) → all ≡ done.whole ++ more
    → StopsIn more now.dialog others last
    → StoppedSession written_bytes all files n last.job.failed last.job.bytes_written (answers ++ others)
session_stopped files n start now text all more answers others before after last new done is stops =
    stopped_after files n start all (done.whole ++ stops.whole) stops.rest (answers ++ others) last last.job new
    (is ∙ (ap (λ (l : List ℕ). done.whole ++ l) stops.split ∙ sym (append_assoc done.whole stops.whole stops.rest)))
    (ends_on done.whole stops.whole stops.rest done.ends stops.ends)
    (same_answered start.dialog last (lines done.whole ++ lines stops.whole) (lines (done.whole ++ stops.whole)) (answers ++ others)
    (lines_joined done.whole stops.whole done.ends)
    (answered_both start.dialog now.dialog last (lines done.whole) (lines stops.whole) answers others done.ran stops.ran))
    refl

-- It stopped after whole lines of what followed.
pub session_stopped_whole : (files : List NamedBytes) (n : ℕ) (start now : SessionView) (text all more answers others : List ℕ)
    (before after : Option (List ℕ)) (last : DialogView)
    → IsNewSession files n start → (done : DoneSoFar start now text answers before after) → all ≡ done.whole ++ more
    → (stops : StopsIn more now.dialog others last) → IsWhole stops.whole
    → (stopped : StoppedSession written_bytes all files n last.job.failed last.job.bytes_written (answers ++ others)) × IsWhole stopped.whole
unfolding session_stopped stopped_after
session_stopped_whole files n start now text all more answers others before after last new done is stops whole = (
  session_stopped files n start now text all more answers others before after last new done is stops,
  both_whole done.whole stops.whole done.ends whole,
)

-- It stopped between two readings.
pub session_cut_off : (files : List NamedBytes) (n : ℕ) (start now : SessionView) (text answers : List ℕ) (before after : Option (List ℕ))
    → IsNewSession files n start → DoneSoFar start now text answers before after
    → IsCutOff written_bytes text files n now.dialog.job.failed now.dialog.job.bytes_written answers
unfolding stopped_after
session_cut_off files n start now text answers before after new done =
    (stopped_after files n start text done.whole now.partial_line answers now.dialog now.dialog.job new done.split (inl done.ends) done.ran refl, done.ends, done.rest)

contains_no : (byte : ℕ) (bytes : List ℕ) → (byte ≡ 10 → ⊥) → (Contains bytes 10 → ⊥) → Contains (byte ∷ bytes) 10 → ⊥
contains_no byte bytes other none (zero, inside, is) = other is
contains_no byte bytes other none (suc k, inside, is) = none (k, omega (arith, inside), is)

-- The byte before the bytes that were looked at is no line feed.
pub none_before : (piece : List ℕ) (size : ℕ) → 0 < size → size ≤ length piece → (get_or piece (size - 1) 0 ≡ 10 → ⊥)
    → (Contains (drop size piece) 10 → ⊥) → Contains (drop (size - 1) piece) 10 → ⊥
none_before piece size some within other none =
    let next : suc (size - 1) ≡ size = omega (arith, some) in
    let is : drop (size - 1) piece ≡ get_or piece (size - 1) 0 ∷ drop size piece =
    drop-cons piece (size - 1) 0 (omega (arith, some, within)) ∙ ap (λ (k : ℕ). get_or piece (size - 1) 0 ∷ drop k piece) next in
    subst (λ (bytes : List ℕ). Contains bytes 10 → ⊥) (sym is) (contains_no (get_or piece (size - 1) 0) (drop size piece) other none)

-- The bytes up to a line feed are whole lines.
pub whole_to : (piece : List ℕ) (size : ℕ) → 0 < size → size ≤ length piece → get_or piece (size - 1) 0 ≡ 10 → IsWhole (take size piece)
whole_to piece size some within is =
    let next : size - 1 + 1 ≡ size = omega (arith, some) in
    let split : take (size - 1 + 1) piece ≡ take (size - 1) piece ++ get_or piece (size - 1) 0 ∷ [] =
    take_more piece (size - 1) 0 (omega (arith, some, within)) in
    inr (take (size - 1) piece, ap (λ (k : ℕ). take k piece) (sym next) ∙ (split ∙ ap (λ (byte : ℕ). take (size - 1) piece ++ byte ∷ []) is))
