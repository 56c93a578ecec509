-- Statuses of the calls on a kept job, and a call on a handle (own).
use Rattle.std.proofs.Common.{◌≡◌, ◌≤◌, ◌↔◌, ℕ, List, inl, inr, refl, sym, ◌∙◌, subst, arith}
use Rattle.std.specs.declared.option.Option.{Option}
use Rattle.std.specs.declared.option.Option.TheVariants.{None, Some}
use Rattle.boxglue_calls.specs.Buffers.{HandsOver}
use Rattle.boxglue_calls.specs.RunStatus.{replies_status, reply_status}
use Rattle.boxglue_calls.proofs.StatusLaws.{replies_status_small, reply_status_small}
use Rattle.boxglue_calls.specs.Calls.{OnJob}
use Rattle.boxglue_calls.specs.Jobs.{KeptState}
use Rattle.boxglue_calls.specs.Pieces.{Answers, DoesCommands, FinishesKept, HandsAnswers, HandsBytes}
use Rattle.boxglue_calls.specs.Replies.{RepliesTo, RepliesToEnd, RowBuffer}
use Rattle.boxglue_calls.specs.declared.jobs.rows.ReplyRow.{ReplyRow}

answered_is_not_8 : (old new text : List ℕ) (done status : ℕ) → done ≤ 7 → Answers old new text done status → status ≡ 8 → ⊥
answered_is_not_8 old new text done status small (inl (more, h)) e = omega (arith, small, h, e)
answered_is_not_8 old new text done status small (inr (same, h)) e = omega (arith, h, e)

handed_is_not_8 : (old new output : List ℕ) (status : ℕ) → HandsOver old new output 0 status → status ≡ 8 → ⊥
handed_is_not_8 old new output status (inl (holds, h)) e = omega (arith, h, e)
handed_is_not_8 old new output status (inr (small, same, h)) e = omega (arith, h, e)

pub commands_is_not_8 : (script : List ℕ) (old new : KeptState) (status : ℕ) → DoesCommands script old new status → status ≡ 8 → ⊥
commands_is_not_8 script old new status (inl ran) e = answered_is_not_8 _ _ _ _ status (replies_status_small ran.run.replies) ran.answered e
commands_is_not_8 script old new status (inr (inl bad)) e = let h = bad.status_is in omega (arith, h, e)
commands_is_not_8 script old new status (inr (inr (same, h))) e = omega (arith, h, e)

pub answers_is_not_8 : (text_old text_new : List ℕ) (size : ℕ) (old new : KeptState) (status : ℕ) → HandsAnswers text_old text_new size old new status → status ≡ 8 → ⊥
answers_is_not_8 text_old text_new size old new status does e = handed_is_not_8 _ _ _ status does.handed e

pub take_is_not_8 : (dvi_old dvi_new : List ℕ) (size : ℕ) (old new : KeptState) (status : ℕ) → HandsBytes dvi_old dvi_new size old new status → status ≡ 8 → ⊥
take_is_not_8 dvi_old dvi_new size old new status does e = handed_is_not_8 _ _ _ status does.handed e

pub finish_is_not_8 : (old new : KeptState) (status : ℕ) → FinishesKept old new status → status ≡ 8 → ⊥
finish_is_not_8 old new status does e = answered_is_not_8 _ _ _ _ status (reply_status_small does.ended.end) does.answered e

pub run_is_not_8 : (script : List ℕ) (before after : RowBuffer) (old new : KeptState) (status : ℕ) → RepliesTo script before after old new status
    → status ≡ 8 → ⊥
run_is_not_8 script before after old new status (inl ran) e =
    let small : replies_status ran.run.replies ≤ 7 = replies_status_small ran.run.replies in
    let is = ran.status_is in
    omega (arith, small, is, e)
run_is_not_8 script before after old new status (inr (inl bad)) e = let h = bad.status_is in omega (arith, h, e)
run_is_not_8 script before after old new status (inr (inr (inl lacks))) e = let h = lacks.status_is in omega (arith, h, e)
run_is_not_8 script before after old new status (inr (inr (inr lacks))) e = let h = lacks.status_is in omega (arith, h, e)

pub end_is_not_8 : (row : ReplyRow) (old new : KeptState) (status : ℕ) → RepliesToEnd row old new status → status ≡ 8 → ⊥
end_is_not_8 row old new status does e =
    let small : reply_status does.ended.end ≤ 7 = reply_status_small does.ended.end in
    let is = does.status_is in
    omega (arith, small, is, e)

abbrev held_job : KeptState → Option KeptState
held_job x = Some x

some_is_not_none : (x : KeptState) → held_job x ≡ None → ⊥
some_is_not_none x e = cc

pub no_job : (Does : KeptState → KeptState → ℕ → Type 0) → ((old new : KeptState) (status : ℕ) → Does old new status → status ≡ 8 → ⊥)
    → (old new : Option KeptState) (status : ℕ) → OnJob Does old new status → (status ≡ 8 ↔ old ≡ None)
no_job Does other None None status h = (λ _. refl, λ _. h)
no_job Does other None (Some new) status h = absurd h
no_job Does other (Some old) None status h = absurd h
no_job Does other (Some old) (Some new) status h = (λ e. absurd (other old new status h e), λ e. absurd (some_is_not_none old e))

pub on_a_job : (Does : KeptState → KeptState → ℕ → Type 0) (old new : Option KeptState) (x y : KeptState) (status : ℕ) → old ≡ Some x → new ≡ Some y → Does x y status → OnJob Does old new status
on_a_job Does old new x y status e f h = subst (λ (o : Option KeptState). OnJob Does o new status) (sym e) (subst (λ (n : Option KeptState). OnJob Does (Some x) n status) (sym f) h)

pub on_no_job : (Does : KeptState → KeptState → ℕ → Type 0) (old new : Option KeptState) (status : ℕ) → old ≡ None → new ≡ None → status ≡ 8 → OnJob Does old new status
on_no_job Does old new status e f h = subst (λ (o : Option KeptState). OnJob Does o new status) (sym e) (subst (λ (n : Option KeptState). OnJob Does None n status) (sym f) h)

-- Each call on a handle with a job.
pub there_was_a_job : (old : Option KeptState) (x : KeptState) (status : ℕ) → old ≡ Some x → (status ≡ 8 → ⊥) → (status ≡ 8 ↔ old ≡ None)
there_was_a_job old x status e other = (λ h. absurd (other h), λ n. absurd (some_is_not_none x (sym e ∙ n)))

pub there_was_none : (old : Option KeptState) (status : ℕ) → old ≡ None → status ≡ 8 → (status ≡ 8 ↔ old ≡ None)
there_was_none old status e h = (λ _. e, λ _. h)

pub answers_on_a_job : (text_old text_new : List ℕ) (size : ℕ) (old : Option KeptState) (x y : KeptState) (status : ℕ) → old ≡ Some x → HandsAnswers text_old text_new size x y status → (status ≡ 8 ↔ old ≡ None)
answers_on_a_job text_old text_new size old x y status e does = there_was_a_job old x status e (answers_is_not_8 text_old text_new size x y status does)

pub take_on_a_job : (dvi_old dvi_new : List ℕ) (size : ℕ) (old : Option KeptState) (x y : KeptState) (status : ℕ) → old ≡ Some x → HandsBytes dvi_old dvi_new size x y status → (status ≡ 8 ↔ old ≡ None)
take_on_a_job dvi_old dvi_new size old x y status e does = there_was_a_job old x status e (take_is_not_8 dvi_old dvi_new size x y status does)

pub finish_on_a_job : (old : Option KeptState) (x y : KeptState) (status : ℕ) → old ≡ Some x → FinishesKept x y status → (status ≡ 8 ↔ old ≡ None)
finish_on_a_job old x y status e does = there_was_a_job old x status e (finish_is_not_8 x y status does)

pub end_on_a_job : (row : ReplyRow) (old : Option KeptState) (x y : KeptState) (status : ℕ) → old ≡ Some x → RepliesToEnd row x y status → (status ≡ 8 ↔ old ≡ None)
end_on_a_job row old x y status e does = there_was_a_job old x status e (end_is_not_8 row x y status does)
