-- What the calls of a session return, by what was read and run.
use Rattle.std.proofs.Common.{◌≡◌, ◌≢◌, ◌<◌, ◌≤◌, ◌+◌, ◌&&◌, inl, inr, ℕ, Bool, true, false, List, [], ◌++◌, length, Option, Some, None, Result, Ok, Err, refl, sym, append_assoc, arith, ◌∙◌, ap, subst}
use Rattle.std.specs.Prelude.{is_ok, IfOk, IfErr, IfSome}
use Rattle.std.specs.Str.Lines.{lines}
use Rattle.std.specs.Io.KnownBytes.{Consumes, IsAtEnd, Keeps}
use Rattle.std.proofs.KnownBytes.{Consumes-nil, Consumes-trans}
use Rattle.std.proofs.lemmas.List.{append-nil, length-append}
use Rattle.job_machine.specs.declared.replies.Refusal.{Refusal}
use Rattle.page_core.specs.declared.summary.Summary.{Summary}
use Rattle.tfm_core.specs.NamedBytes.{NamedBytes}
use Rattle.boxglue_program.specs.Reports.{written_bytes}
use Rattle.boxglue_program.specs.Texts.{end_line}
use Rattle.boxglue_program.specs.Sessions.{IsSent, DialogView, AnswersLines, EndsRun, SessionView, Exchanges, LacksMemory, StopsIn, IsNewSession}
use Rattle.boxglue_program.specs.Sessions.{EndsSession, RanSession, LacksSessionMemory, IsUnreadable, IsCutOff}
use Rattle.boxglue_program.specs.declared.session.SessionFault.{SessionFault}
use Rattle.boxglue_program.specs.declared.session.SessionFault.TheVariants.{OutOfMemory, Unreadable}
use Rattle.boxglue_program.proofs.WritingLemmas.{appends_keeps, keeps_appends}
use Rattle.boxglue_program.proofs.SessionLaws.{kept_as, keeps_both, sent_both, sent_none}
use Rattle.boxglue_program.proofs.SessionEnds.{DoneSoFar, done_at_start, done_more, session_ran, session_stopped, session_stopped_whole, session_cut_off}

abbrev fault_of : SessionFault → Result Bool SessionFault
fault_of fault = Err fault

same_fault : {a b : SessionFault} → fault_of a ≡ fault_of b → a ≡ b
same_fault e = cc

-- A reader that kept its bytes has given none.
pub none_consumed : (old new : Option (List ℕ)) → Keeps old new → Consumes old new []
none_consumed None new kept = tt
none_consumed (Some bytes) None kept = absurd kept
none_consumed (Some bytes) (Some others) kept = sym kept

-- What was sent, and then nothing.
sent_kept : (a b : Bool) (old middle new : Option (List ℕ)) (text : List ℕ) → IsSent a b old middle text → Keeps middle new → IsSent a b old new text
sent_kept true true old middle new text sent kept = appends_keeps old middle new text sent kept
sent_kept true false old middle new text (n, less, sent) kept = (n, less, appends_keeps old middle new _ sent kept)
sent_kept false true old middle new text sent kept = absurd sent
sent_kept false false old middle new text sent kept = keeps_both old middle new sent kept

-- Nothing, and then what was sent.
kept_sent : (a b : Bool) (old middle new : Option (List ℕ)) (text : List ℕ) → Keeps old middle → IsSent a b middle new text → IsSent a b old new text
kept_sent true true old middle new text kept sent = keeps_appends old middle new text kept sent
kept_sent true false old middle new text kept (n, less, sent) = (n, less, keeps_appends old middle new _ kept sent)
kept_sent false true old middle new text kept sent = absurd sent
kept_sent false false old middle new text kept sent = keeps_both old middle new kept sent

-- A session was finished.
pub session_finished : (old was : SessionView) (outcome : Result Bool SessionFault) (accepted reads written : Bool) (k failed : ℕ)
    (bytes_written reported before after : Option (List ℕ)) (answers : List ℕ) (middle : DialogView) (end : Result Summary Refusal)
    → was ≡ old → outcome ≡ Ok accepted → k ≡ failed → bytes_written ≡ reported → written ≡ reads
    → AnswersLines was.dialog (lines was.partial_line) answers middle → EndsRun middle.job end failed reported
    → IsSent was.reads reads before after (answers ++ end_line end) → accepted ≡ (middle.accepted && is_ok end)
    → IfOk outcome (λ accepted. (answer : List ℕ) × EndsSession old k bytes_written answer accepted × IsSent old.reads written before after answer)
session_finished old was outcome accepted reads written k failed bytes_written reported before after answers middle end same is count bytes as_reported
    ran run sent fine =
    rw (is, count, bytes, as_reported, ← same) (
      answers ++ end_line end,
      record { answers = answers; middle = middle; ran = ran; end = end; run = run; answer_is = refl; accepted_is = fine },
      sent,
    )

-- Memory was refused before a session was finished.
pub session_unfinished : (old was : SessionView) (ended : DialogView) (outcome : Result Bool SessionFault) (reads written : Bool) (k : ℕ)
    (bytes_written before after : Option (List ℕ)) (answers : List ℕ)
    → was ≡ old → outcome ≡ Err OutOfMemory → k ≡ ended.job.failed → bytes_written ≡ ended.job.bytes_written → written ≡ reads
    → StopsIn was.partial_line was.dialog answers ended → IsSent was.reads reads before after answers
    → IfErr outcome (λ fault. (fault ≡ OutOfMemory) × (answers : List ℕ) × (last : DialogView) × StopsIn old.partial_line old.dialog answers last
    × IsSent old.reads written before after answers × (k ≡ last.job.failed) × (bytes_written ≡ last.job.bytes_written))
session_unfinished old was ended outcome reads written k bytes_written before after answers same is count bytes as_reported stops sent =
    rw (is, as_reported, ← same) (refl, answers, ended, stops, sent, count, bytes)

-- What a session that is going on has read, run and sent.
pub record InSession (start now : SessionView) (input left before after : Option (List ℕ)) : Type 0 where
  pub text : List ℕ
  pub answers : List ℕ
  pub read : Consumes input left text
  pub done : DoneSoFar start now text answers before after

pub session_begins : (start : SessionView) (input before : Option (List ℕ)) → start.partial_line ≡ [] → InSession start start input input before before
session_begins start input before none = record { text = []; answers = []; read = Consumes-nil input; done = done_at_start start before none }

pub session_goes_on : (start now new : SessionView) (input left rest before middle after : Option (List ℕ))
    → InSession start now input left before middle
    → (piece : List ℕ) × Consumes left rest piece × Exchanges now piece new middle after → InSession start new input rest before after
session_goes_on start now new input left rest before middle after so_far (piece, consumed, exchanged) = record {
  text = so_far.text ++ piece;
  answers = so_far.answers ++ exchanged.answers;
  read = Consumes-trans input left rest so_far.text piece so_far.read consumed;
  done = done_more start now new so_far.text piece so_far.answers before middle after so_far.done exchanged;
}

-- All that a session sent, and then more.
all_sent : (files : List NamedBytes) (n : ℕ) (start now : SessionView) (input left before middle after : Option (List ℕ)) (reads : Bool)
    (more : List ℕ)
    → IsNewSession files n start → (so_far : InSession start now input left before middle) → IsSent now.reads reads middle after more
    → IsSent true reads before after (so_far.answers ++ more)
all_sent files n start now input left before middle after reads more new so_far sent =
    subst (λ (b : Bool). IsSent b reads before after (so_far.answers ++ more)) new.reads
    (sent_both start.reads now.reads reads before middle after so_far.answers more so_far.done.sent sent)

all_read : (start now : SessionView) (input left rest before after : Option (List ℕ)) → (so_far : InSession start now input left before after)
    → Consumes left rest [] → Consumes input rest so_far.text
all_read start now input left rest before after so_far none =
    subst (λ (l : List ℕ). Consumes input rest l) (append-nil so_far.text) (Consumes-trans input left rest so_far.text [] so_far.read none)

-- The input was read to its end, and the job was finished.
pub run_ended : (files : List NamedBytes) (n k limit : ℕ) (start now last : SessionView)
    (input left rest before middle between after bytes_written : Option (List ℕ)) (outcome : Result Bool SessionFault) (written : Bool)
    → IsNewSession files n start → start.left ≡ limit → InSession start now input left before middle
    → (last ≡ now) × Consumes left rest [] × IsAtEnd rest × Keeps middle between
    → IfOk outcome (λ accepted. (answer : List ℕ) × EndsSession last k bytes_written answer accepted × IsSent last.reads written between after answer)
    → IfOk outcome (λ accepted. (text answer : List ℕ) × Consumes input rest text × IsAtEnd rest × (length text ≤ limit)
    × RanSession written_bytes text files n k bytes_written answer accepted × IsSent true written before after answer)
run_ended files n k limit start now last input left rest before middle between after bytes_written (Err fault) written new limited so_far at_end
    ends = tt
run_ended files n k limit start now last input left rest before middle between after bytes_written (Ok accepted) written new limited so_far
    (same, none, end, kept) (answer, ends, sent) =
    let finished : EndsSession now k bytes_written answer accepted =
    subst (λ (s : SessionView). EndsSession s k bytes_written answer accepted) same ends in
    let sent_now : IsSent now.reads written between after answer =
    subst (λ (s : SessionView). IsSent s.reads written between after answer) same sent in (
      so_far.text,
      so_far.answers ++ answer,
      all_read start now input left rest before middle so_far none,
      end,
      omega (arith, so_far.done.left, limited),
      session_ran files n k start now so_far.text so_far.answers answer before middle bytes_written accepted new so_far.done finished,
      all_sent files n start now input left before middle after written answer new so_far
          (kept_sent now.reads written middle between after answer kept sent_now),
    )

-- The input was read to its end, and memory was refused before the job was finished.
pub run_unfinished : (files : List NamedBytes) (n k limit : ℕ) (start now last : SessionView)
    (input left rest before middle between after bytes_written : Option (List ℕ)) (outcome : Result Bool SessionFault) (written : Bool)
    → IsNewSession files n start → start.left ≡ limit → InSession start now input left before middle
    → (last ≡ now) × Consumes left rest [] × IsAtEnd rest × Keeps middle between
    → IfErr outcome (λ fault. (fault ≡ OutOfMemory) × (answers : List ℕ) × (ended : DialogView) × StopsIn last.partial_line last.dialog answers ended
    × IsSent last.reads written between after answers × (k ≡ ended.job.failed) × (bytes_written ≡ ended.job.bytes_written))
    → outcome ≡ Err OutOfMemory → (text answer : List ℕ) × Consumes input rest text × (length text ≤ limit)
    × LacksSessionMemory written_bytes (IsAtEnd rest) text files n k bytes_written answer × IsSent true written before after answer
run_unfinished files n k limit start now last input left rest before middle between after bytes_written (Ok accepted) written new limited so_far
    at_end lacks wants = absurd (cc)
run_unfinished files n k limit start now last input left rest before middle between after bytes_written (Err fault) written new limited so_far
    (same, none, end, kept) (is, others, ended, stops, sent, count, bytes) wants =
    let stops_now : StopsIn now.partial_line now.dialog others ended = subst (λ (s : SessionView). StopsIn s.partial_line s.dialog others ended) same stops in
    let sent_now : IsSent now.reads written between after others =
    subst (λ (s : SessionView). IsSent s.reads written between after others) same sent in
    rw (count, bytes) (
      so_far.text,
      so_far.answers ++ others,
      all_read start now input left rest before middle so_far none,
      omega (arith, so_far.done.left, limited),
      inr (
        session_stopped files n start now so_far.text so_far.text now.partial_line so_far.answers others before middle ended new so_far.done
            so_far.done.split stops_now,
        inr end,
      ),
      all_sent files n start now input left before middle after written others new so_far
          (kept_sent now.reads written middle between after others kept sent_now),
    )

-- Memory is the only thing that finishing a session may lack.
pub finished_or_refused : (last : SessionView) (k : ℕ) (between after bytes_written : Option (List ℕ)) (outcome : Result Bool SessionFault)
    (written : Bool)
    → IfErr outcome (λ fault. (fault ≡ OutOfMemory) × (answers : List ℕ) × (ended : DialogView) × StopsIn last.partial_line last.dialog answers ended
    × IsSent last.reads written between after answers × (k ≡ ended.job.failed) × (bytes_written ≡ ended.job.bytes_written))
    → outcome ≡ Err Unreadable → ⊥
finished_or_refused last k between after bytes_written (Ok accepted) written lacks is = cc
finished_or_refused last k between after bytes_written (Err fault) written lacks is = two_faults (sym lacks.0 ∙ same_fault is)
  where
    two_faults : OutOfMemory ≡ Unreadable → ⊥
    two_faults e = cc

-- A session that lost its input does not lack memory.
pub other_fault : (outcome : Result Bool SessionFault) → outcome ≡ Err Unreadable → outcome ≡ Err OutOfMemory → ⊥
other_fault outcome is other = cc

-- A result by its parts.
pub ok_at : {A E : Type 0} {r : Result A E} {x y : A} → r ≡ Ok x → x ≡ y → r ≡ Ok y
ok_at is same = cc

pub err_at : {A E : Type 0} {r : Result A E} {x y : E} → r ≡ Err x → x ≡ y → r ≡ Err y
err_at is same = cc

-- A device that was returned unchanged has reported what it had.
pub returned_silent : {D : Type 0} (bytes_written : D → Option (List ℕ)) (device back : D) → back ≡ device
    → IfSome (bytes_written device) (λ bytes. bytes ≡ []) → IfSome (bytes_written back) (λ bytes. bytes ≡ [])
returned_silent bytes_written device back same silent = rw same silent

-- Memory was refused after a reading.
pub run_lacks_space : (files : List NamedBytes) (n k limit : ℕ) (start now last : SessionView)
    (input left rest before middle after bytes_written : Option (List ℕ)) (outcome : Result Bool SessionFault) (fault : SessionFault) (written : Bool)
    → IsNewSession files n start → start.left ≡ limit → InSession start now input left before middle
    → (fault ≡ OutOfMemory → (piece : List ℕ) × Consumes left rest piece × LacksMemory now piece last middle after)
    → outcome ≡ Err fault → written ≡ last.reads → k ≡ last.dialog.job.failed → bytes_written ≡ last.dialog.job.bytes_written
    → outcome ≡ Err OutOfMemory → (text answer : List ℕ) × Consumes input rest text × (length text ≤ limit)
    × LacksSessionMemory written_bytes (IsAtEnd rest) text files n k bytes_written answer × IsSent true written before after answer
run_lacks_space files n k limit start now last input left rest before middle after bytes_written outcome fault written new limited so_far space is
    as_reported count bytes wants =
    let (piece, consumed, lacks) = space (same_fault (sym is ∙ wants)) in
    let split : so_far.text ++ piece ≡ so_far.done.whole ++ (now.partial_line ++ piece) =
    ap (λ (l : List ℕ). l ++ piece) so_far.done.split ∙ append_assoc so_far.done.whole now.partial_line piece in
    let stopped = session_stopped_whole files n start now so_far.text (so_far.text ++ piece) (now.partial_line ++ piece) so_far.answers lacks.answers before
    middle last.dialog new so_far.done split lacks.stops lacks.whole in
    rw (as_reported, count, bytes) (
      so_far.text ++ piece,
      so_far.answers ++ lacks.answers,
      Consumes-trans input left rest so_far.text piece so_far.read consumed,
      omega (arith, so_far.done.left, lacks.left, limited, length-append so_far.text piece),
      inr (stopped.0, inl stopped.1),
      all_sent files n start now input left before middle after last.reads lacks.answers new so_far lacks.sent,
    )

-- A reading failed, or brought too much.
pub run_lost_input : (files : List NamedBytes) (n k limit : ℕ) (start now last : SessionView)
    (input left rest before middle after bytes_written : Option (List ℕ)) (outcome : Result Bool SessionFault) (fault : SessionFault) (written : Bool)
    → IsNewSession files n start → start.left ≡ limit → InSession start now input left before middle
    → (fault ≡ Unreadable → (last ≡ now) × (lost : List ℕ) × Consumes left rest lost × (length lost ≤ 65536)
    × (lost ≢ [] → now.left < length lost) × Keeps middle after)
    → outcome ≡ Err fault → written ≡ last.reads → k ≡ last.dialog.job.failed → bytes_written ≡ last.dialog.job.bytes_written
    → outcome ≡ Err Unreadable → (text lost answer : List ℕ) × Consumes input rest (text ++ lost) × IsUnreadable limit text lost
    × IsCutOff written_bytes text files n k bytes_written answer × IsSent true written before after answer
run_lost_input files n k limit start now last input left rest before middle after bytes_written outcome fault written new limited so_far loses is
    as_reported count bytes wants =
    let (same, lost, consumed, small, over, kept) = loses (same_fault (sym is ∙ wants)) in
    let read : now.left + length so_far.text ≡ limit = so_far.done.left ∙ limited in
    let sent : IsSent true now.reads before middle so_far.answers =
    subst (λ (b : Bool). IsSent b now.reads before middle so_far.answers) new.reads so_far.done.sent in
    rw (as_reported, count, bytes, same) (
      so_far.text,
      lost,
      so_far.answers,
      Consumes-trans input left rest so_far.text lost so_far.read consumed,
      record { within = omega (arith, read); piece = small; over = λ some. let more : now.left < length lost = over some in omega (arith, read) },
      session_cut_off files n start now so_far.text so_far.answers before middle new so_far.done,
      sent_kept true now.reads before middle after so_far.answers sent kept,
    )

-- The end was not reached within so many calls.
pub run_not_ended : (files : List NamedBytes) (n k limit : ℕ) (start now : SessionView) (input left before after bytes_written : Option (List ℕ))
    (outcome : Result Bool SessionFault) (written : Bool)
    → IsNewSession files n start → start.left ≡ limit → InSession start now input left before after
    → outcome ≡ Err Unreadable → written ≡ now.reads → k ≡ now.dialog.job.failed → bytes_written ≡ now.dialog.job.bytes_written
    → (text lost answer : List ℕ) × Consumes input left (text ++ lost) × IsUnreadable limit text lost
    × IsCutOff written_bytes text files n k bytes_written answer × IsSent true written before after answer
run_not_ended files n k limit start now input left before after bytes_written outcome written new limited so_far is as_reported count bytes =
    run_lost_input files n k limit start now now input left left before after after bytes_written outcome Unreadable written new limited so_far
    (λ _. (refl, [], Consumes-nil left, omega arith, λ some. absurd (some refl), kept_as after)) is as_reported count bytes is

-- Memory was refused before the first reading.
pub run_not_begun : (files : List NamedBytes) (n k limit : ℕ) (input before bytes_written : Option (List ℕ)) → k ≡ n
    → IfSome bytes_written (λ bytes. bytes ≡ [])
    → (text answer : List ℕ) × Consumes input input text × (length text ≤ limit)
    × LacksSessionMemory written_bytes (IsAtEnd input) text files n k bytes_written answer × IsSent true true before before answer
run_not_begun files n k limit input before bytes_written same silent =
    ([], [], Consumes-nil input, omega arith, inl (record { silent = silent; failed_is = same }, refl, refl), sent_none true before)

-- A session that stops for a fault has the past that its device had at the beginning.
pub began_stays : (start now new : SessionView) (input left rest before middle after : Option (List ℕ)) (fault : SessionFault)
    → InSession start now input left before middle
    → (fault ≡ OutOfMemory → (piece : List ℕ) × Consumes left rest piece × LacksMemory now piece new middle after)
    → (fault ≡ Unreadable → (new ≡ now) × (lost : List ℕ) × Consumes left rest lost × (length lost ≤ 65536)
    × (lost ≢ [] → now.left < length lost) × Keeps middle after)
    → new.dialog.job.began ≡ start.dialog.job.began
began_stays start now new input left rest before middle after OutOfMemory so_far memory unread =
    let (piece, read, lacks) = memory refl in lacks.stops.ran.goes_on.began ∙ so_far.done.ran.goes_on.began
began_stays start now new input left rest before middle after Unreadable so_far memory unread =
    ap (λ (s : SessionView). s.dialog.job.began) (unread refl).0 ∙ so_far.done.ran.goes_on.began
