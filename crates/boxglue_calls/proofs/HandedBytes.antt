-- The bytes of the file that were handed over (own).
use Rattle.std.proofs.Common.{◌≡◌, ◌++◌, ℕ, List, [], length, take, drop, inl, inr, refl, sym, ap, ◌∙◌, subst, append_assoc, arith}
use Rattle.std.proofs.lemmas.List.{append-nil}
use Rattle.std.proofs.Math.Seq.{drop-append_seam}
use Rattle.std.specs.declared.option.Option.{Option}
use Rattle.std.specs.declared.option.Option.TheVariants.{None, Some}
use Rattle.dvi_device.specs.Written.{written_then}
use Rattle.dvi_write.specs.Writing.{GoesOn}
use Rattle.job_core.specs.Jobs.{JobView, writing_of}
use Rattle.boxglue_calls.specs.Jobs.{HasHanded, KeptState, reported_bytes, sent_by}
use Rattle.boxglue_calls.specs.Pieces.{DoesCommands, FinishesKept, HandsAnswers, HandsBytes}
use Rattle.boxglue_calls.specs.Replies.{RepliesTo, RepliesToEnd, RowBuffer}
use Rattle.boxglue_calls.specs.declared.jobs.rows.ReplyRow.{ReplyRow}

-- More was reported after what was reported.
reported_more : (old new : Option (List ℕ)) (more : List ℕ) → new ≡ written_then old more → (rest : List ℕ) × (reported_bytes new ≡ reported_bytes old ++ rest)
reported_more None new more is = ([], ap reported_bytes is)
reported_more (Some bytes) new more is = (more, ap reported_bytes is)

-- A call that hands no byte over, and after which the bytes that were sent stand.
pub still_handed : (old new : KeptState) (handed : List ℕ) → HasHanded old handed → GoesOn (writing_of old.job) (writing_of new.job) → new.taken ≡ old.taken
    → HasHanded new handed
still_handed old new handed has goes taken =
    let (after, grown) = reported_more old.job.bytes_written new.job.bytes_written goes.more goes.grows in
    record {
      rest = has.rest ++ after;
      sent = grown ∙ ap (λ (bytes : List ℕ). bytes ++ after) has.sent ∙ append_assoc handed has.rest after;
      count = taken ∙ has.count;
    }

pub same_handed : (old new : KeptState) (handed : List ℕ) → HasHanded old handed → new.job ≡ old.job → new.taken ≡ old.taken → HasHanded new handed
same_handed old new handed has job taken = record {
  rest = has.rest;
  sent = ap (λ (j : JobView). sent_by j) job ∙ has.sent;
  count = taken ∙ has.count;
}

pub commands_handed : (script handed : List ℕ) (old new : KeptState) (status : ℕ) → HasHanded old handed → DoesCommands script old new status → HasHanded new handed
commands_handed script handed old new status has (inl ran) = still_handed old new handed has ran.run.goes_on ran.run.taken
commands_handed script handed old new status has (inr (inl bad)) =
    same_handed old new handed has (ap (λ (k : KeptState). k.job) bad.new_is) (ap (λ (k : KeptState). k.taken) bad.new_is)
commands_handed script handed old new status has (inr (inr (same, lacks))) = subst (λ (k : KeptState). HasHanded k handed) (sym same) has

pub finish_handed : (handed : List ℕ) (old new : KeptState) (status : ℕ) → HasHanded old handed → FinishesKept old new status → HasHanded new handed
finish_handed handed old new status has ends = still_handed old new handed has ends.ended.goes_on ends.ended.taken

pub replies_handed : (script handed : List ℕ) (before after : RowBuffer) (old new : KeptState) (status : ℕ) → HasHanded old handed
    → RepliesTo script before after old new status → HasHanded new handed
replies_handed script handed before after old new status has (inl ran) = still_handed old new handed has ran.run.goes_on ran.run.taken
replies_handed script handed before after old new status has (inr (inl bad)) = subst (λ (k : KeptState). HasHanded k handed) (sym bad.same) has
replies_handed script handed before after old new status has (inr (inr (inl lacks))) = subst (λ (k : KeptState). HasHanded k handed) (sym lacks.same) has
replies_handed script handed before after old new status has (inr (inr (inr lacks))) = subst (λ (k : KeptState). HasHanded k handed) (sym lacks.same) has

pub end_handed : (handed : List ℕ) (row : ReplyRow) (old new : KeptState) (status : ℕ) → HasHanded old handed → RepliesToEnd row old new status → HasHanded new handed
end_handed handed row old new status has ends = still_handed old new handed has ends.ended.goes_on ends.ended.taken

pub answers_handed : (text_old text_new handed : List ℕ) (size : ℕ) (old new : KeptState) (status : ℕ) → HasHanded old handed → HandsAnswers text_old text_new size old new status → HasHanded new handed
answers_handed text_old text_new handed size old new status has hands =
    elim hands.handed [
      | inl (holds, done) ↦ let is = hands.given done in same_handed old new handed has (ap (λ (k : KeptState). k.job) is) (ap (λ (k : KeptState). k.taken) is)
      | inr (small, same, done) ↦ subst (λ (k : KeptState). HasHanded k handed) (sym (hands.same done)) has
    ]

pub waits_handed : (dvi_old dvi_new handed : List ℕ) (size : ℕ) (old new : KeptState) → HasHanded old handed → HandsBytes dvi_old dvi_new size old new 4 → HasHanded new handed
waits_handed dvi_old dvi_new handed size old new has hands = subst (λ (k : KeptState). HasHanded k handed) (sym (hands.same refl)) has

-- All bytes were handed over.
pub all_handed : (dvi_old dvi_new handed : List ℕ) (size : ℕ) (old new : KeptState) → HasHanded old handed → HandsBytes dvi_old dvi_new size old new 0 → handed ++ take size dvi_new ≡ sent_by new.job
all_handed dvi_old dvi_new handed size old new has hands =
    let output = drop old.taken (sent_by old.job) in
    let rest_is : output ≡ has.rest =
    ap (λ (n : ℕ). drop n (sent_by old.job)) has.count ∙ (ap (λ (bytes : List ℕ). drop (length handed) bytes) has.sent ∙ drop-append_seam handed has.rest) in
    let same : sent_by new.job ≡ sent_by old.job = ap (λ (k : KeptState). sent_by k.job) (hands.given refl) in
    elim hands.handed [
      | inl (holds, done) ↦
          ap (λ (n : ℕ). handed ++ take n dvi_new) hands.size_is ∙ (ap (λ (bytes : List ℕ). handed ++ bytes) (holds.front ∙ rest_is) ∙ (sym has.sent ∙ sym same))
      | inr (small, kept, done) ↦ absurd (omega (arith, done))
    ]

pub given_handed : (dvi_old dvi_new handed : List ℕ) (size : ℕ) (old new : KeptState) → HasHanded old handed → HandsBytes dvi_old dvi_new size old new 0 → HasHanded new (handed ++ take size dvi_new)
given_handed dvi_old dvi_new handed size old new has hands =
    let all = all_handed dvi_old dvi_new handed size old new has hands in
    let same : sent_by old.job ≡ sent_by new.job = sym (ap (λ (k : KeptState). sent_by k.job) (hands.given refl)) in
    record {
      rest = [];
      sent = sym all ∙ sym (append-nil (handed ++ take size dvi_new));
      count = ap (λ (k : KeptState). k.taken) (hands.given refl) ∙ (ap length same ∙ sym (ap length all));
    }
