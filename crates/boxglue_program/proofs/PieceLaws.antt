-- One piece that was read: its whole lines are run, and what follows them is kept.
use Rattle.std.proofs.Common.{◌≡◌, ◌<◌, ◌≤◌, ◌+◌, ◌-◌, ◌∷◌, inl, inr, ℕ, Bool, List, [], ◌++◌, length, length-take-le, take, Option, Some, refl, sym, append_assoc, arith, ◌∙◌, ap, subst}
use Rattle.std.specs.Prelude.{is_ok, if◌then◌else◌, Contains, IfSome, Result, Ok, Err, OnOk, OnErr}
use Rattle.std.specs.Io.KnownBytes.{Consumes}
use Rattle.std.specs.Str.Lines.{lines}
use Rattle.std.proofs.lemmas.List.{append-nil}
use Rattle.boxglue_script.specs.LineContents.{IsWhole}
use Rattle.boxglue_program.specs.Sessions.{IsSent, DialogView, AnswersLines, SessionView, Exchanges, LacksMemory, StopsIn}
use Rattle.boxglue_program.specs.Private.Dialogs.{IsCutAfterLines, StopsAfterLines}
use Rattle.boxglue_program.proofs.SessionLaws.{none_answered, sent_none}
use Rattle.boxglue_program.proofs.DialogLaws.{stops_further, stops_at_once, stops_at_rest}

-- A piece was cut after its last line feed. With the bytes kept before, what comes up to there is this text.
pub record Cut (kept piece whole rest text : List ℕ) : Type 0 where
  pub split : piece ≡ whole ++ rest
  pub ends : IsWhole whole
  pub some : 0 < length whole
  pub text_is : text ≡ kept ++ whole

-- Bytes before whole lines leave them whole.
whole_after : (kept whole : List ℕ) → 0 < length whole → IsWhole whole → IsWhole (kept ++ whole)
whole_after kept whole some (inl none) = let size : length whole ≡ 0 = ap length none in absurd (omega (arith, size, some))
whole_after kept whole some (inr (front, is)) = inr (kept ++ front, ap (λ (l : List ℕ). kept ++ l) is ∙ sym (append_assoc kept front (10 ∷ [])))

text_whole : (kept piece whole rest text : List ℕ) → Cut kept piece whole rest text → IsWhole text
text_whole kept piece whole rest text cut = subst IsWhole (sym cut.text_is) (whole_after kept whole cut.some cut.ends)

text_and_rest : (kept piece whole rest text : List ℕ) → Cut kept piece whole rest text → text ++ rest ≡ kept ++ piece
text_and_rest kept piece whole rest text cut =
    ap (λ (l : List ℕ). l ++ rest) cut.text_is ∙ (append_assoc kept whole rest ∙ ap (λ (l : List ℕ). kept ++ l) (sym cut.split))

-- The whole lines of a piece were put after the bytes kept before.
pub cut_of : (kept piece whole rest joined text : List ℕ) → IsCutAfterLines piece whole rest → 0 < length whole → joined ≡ kept ++ whole → text ≡ joined
    → Cut kept piece whole rest text
cut_of kept piece whole rest joined text cut some is told = record { split = cut.split; ends = cut.ends; some = some; text_is = told ∙ is }

-- No line ends in the piece, and it is kept.
pub none_taken : {A E : Type 0} (r : Result A E) (kept more piece whole rest : List ℕ) (dialog : DialogView) (reads : Bool) (old : Option (List ℕ))
    → piece ≡ whole ++ rest → length whole ≡ 0
    → more ≡ (if is_ok r then kept ++ rest else kept)
    → OnOk r ((whole answers : List ℕ) × (kept ++ piece ≡ whole ++ more) × IsWhole whole × AnswersLines dialog (lines whole) answers dialog
    × IsSent reads reads old old answers)
none_taken (Ok x) kept more piece [] rest dialog reads old split none
    is = ([], [], ap (λ (l : List ℕ). kept ++ l) split ∙ sym is, inl refl, none_answered dialog, sent_none reads old)
none_taken (Ok x) kept more piece (byte ∷ whole) rest dialog reads old split none is = absurd (omega (arith, none))
none_taken (Err e) kept more piece whole rest dialog reads old split none is = tt

-- Memory was refused before a line was run.
pub stopped_at_once : {A E : Type 0} (r : Result A E) (text : List ℕ) (dialog : DialogView) (reads : Bool) (old : Option (List ℕ))
    → OnErr r ((answers : List ℕ) × StopsAfterLines text dialog answers dialog × IsSent reads reads old old answers)
stopped_at_once (Ok x) text dialog reads old = tt
stopped_at_once (Err e) text dialog reads old = ([], stops_at_once text dialog, sent_none reads old)

-- Memory was refused at one of the whole lines.
pub stopped_within : {A E : Type 0} (r : Result A E) (kept piece whole rest text : List ℕ) (dialog last : DialogView) (reads now : Bool)
    (old new : Option (List ℕ)) → Cut kept piece whole rest text
    → (answers : List ℕ) × StopsIn text dialog answers last × IsSent reads now old new answers
    → OnErr r ((answers : List ℕ) × StopsAfterLines (kept ++ piece) dialog answers last × IsSent reads now old new answers)
stopped_within (Ok x) kept piece whole rest text dialog last reads now old new cut stops = tt
stopped_within (Err e) kept piece whole rest text dialog last reads now old new cut (answers, stops, sent) = (
  answers,
  subst (λ (l : List ℕ). StopsAfterLines l dialog answers last) (text_and_rest kept piece whole rest text cut)
      (stops_further text rest answers dialog last (text_whole kept piece whole rest text cut) stops),
  sent,
)

-- The whole lines were run, and what follows them is kept.
pub lines_taken : {A E : Type 0} (r : Result A E) (kept piece whole rest text cleared more : List ℕ) (dialog new : DialogView) (reads now : Bool)
    (old after : Option (List ℕ)) → Cut kept piece whole rest text
    → cleared ≡ [] → more ≡ (if is_ok r then cleared ++ rest else cleared)
    → (answers : List ℕ) × AnswersLines dialog (lines text) answers new × IsSent reads now old after answers
    → OnOk r ((whole answers : List ℕ) × (kept ++ piece ≡ whole ++ more) × IsWhole whole × AnswersLines dialog (lines whole) answers new
    × IsSent reads now old after answers)
lines_taken (Ok x) kept piece whole rest text cleared more dialog new reads now old after cut none is (answers, ran, sent) = (
  text,
  answers,
  sym (text_and_rest kept piece whole rest text cut) ∙ ap (λ (l : List ℕ). text ++ l) (sym (is ∙ ap (λ (l : List ℕ). l ++ rest) none)),
  text_whole kept piece whole rest text cut,
  ran,
  sent,
)
lines_taken (Err e) kept piece whole rest text cleared more dialog new reads now old after cut none is ran = tt

-- The whole lines were run, and what follows them was not kept.
pub stopped_at_rest : {A E : Type 0} (r : Result A E) (kept piece whole rest text : List ℕ) (dialog new : DialogView) (reads now : Bool)
    (old after : Option (List ℕ)) → Cut kept piece whole rest text
    → (answers : List ℕ) × AnswersLines dialog (lines text) answers new × IsSent reads now old after answers
    → OnErr r ((answers : List ℕ) × StopsAfterLines (kept ++ piece) dialog answers new × IsSent reads now old after answers)
stopped_at_rest (Ok x) kept piece whole rest text dialog new reads now old after cut ran = tt
stopped_at_rest (Err e) kept piece whole rest text dialog new reads now old after cut (answers, ran, sent) = (
  answers,
  subst (λ (l : List ℕ). StopsAfterLines l dialog answers new) (text_and_rest kept piece whole rest text cut)
      (stops_at_rest text rest answers dialog new (text_whole kept piece whole rest text cut) ran),
  sent,
)

-- One reading brought a piece, which may be read.
pub record Comes (left count : ℕ) (text : List ℕ) (old new : Option (List ℕ)) : Type 0 where
  pub consumed : Consumes old new (take count text)
  pub left_is : left - count + length (take count text) ≡ left

-- What came into a buffer, by what a reading says of it.
pub piece_comes : (read : Option ℕ) (count most left : ℕ) (bytes text : List ℕ) (old new : Option (List ℕ)) → read ≡ Some count
    → IfSome read (λ n. (n ≤ most) × Consumes old new (take n bytes)) → text ≡ bytes → most ≡ length bytes → count ≤ left → Comes left count text old new
piece_comes read count most left bytes text old new is said same long fits =
    let came = count_came read count most bytes old new is said in
    let size : length (take count text) ≡ count = length-take-le count text (omega (arith, ap length same, long, came.0)) in
    record { consumed = rw same came.1; left_is = omega (arith, size, fits) }
  where
    count_came : (read : Option ℕ) (count most : ℕ) (bytes : List ℕ) (old new : Option (List ℕ)) → read ≡ Some count → IfSome read (λ n. (n ≤ most) × Consumes old new (take n bytes))
        → (count ≤ most) × Consumes old new (take count bytes)
    count_came read count most bytes old new is said = rw is at said

-- One reading brought a piece that was taken.
pub piece_exchanged : (old was new : SessionView) (piece : List ℕ) (before after : Option (List ℕ)) → was ≡ old
    → (whole answers : List ℕ) × (was.partial_line ++ piece ≡ whole ++ new.partial_line) × IsWhole whole × AnswersLines was.dialog
    (lines whole) answers new.dialog × IsSent was.reads new.reads before after answers
    → (Contains new.partial_line 10 → ⊥) → new.left + length piece ≡ was.left → Exchanges old piece new before after
piece_exchanged old was new piece before after same (whole, answers, split, ends, ran, sent) rest left =
    subst (λ (s : SessionView). Exchanges s piece new before after) same
    (record { whole = whole; split = split; ends = ends; rest = rest; answers = answers; ran = ran; sent = sent; left = left })

-- One reading brought nothing.
pub nothing_exchanged : (old was : SessionView) (before : Option (List ℕ)) → was ≡ old → (Contains was.partial_line 10 → ⊥)
    → Exchanges old [] was before before
nothing_exchanged old was before same rest =
    piece_exchanged old was was [] before before same
    ([], [], append-nil was.partial_line, inl refl, none_answered was.dialog, sent_none was.reads before) rest (omega arith)

-- Memory was refused after a piece was read.
pub space_lacked : (old was new : SessionView) (piece : List ℕ) (before after : Option (List ℕ)) → was ≡ old
    → (answers : List ℕ) × StopsAfterLines (was.partial_line ++ piece) was.dialog answers new.dialog × IsSent was.reads new.reads before after answers
    → new.partial_line ≡ [] → new.left + length piece ≡ was.left → LacksMemory old piece new before after
space_lacked old was new piece before after same (answers, (stops, whole), sent) none left =
    subst (λ (s : SessionView). LacksMemory s piece new before after) same
    (record { answers = answers; stops = stops; whole = whole; sent = sent; partial_line = none; left = left })
