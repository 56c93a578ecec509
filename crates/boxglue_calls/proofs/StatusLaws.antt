-- The status of replies (own).
use Rattle.std.proofs.Common.{◌≡◌, ◌≤◌, ◌⊎◌, ◌↔◌, ◌++◌, ◌&&◌, ◌∷◌, [], ℕ, Bool, true, false, List, All, Contains, Result, Ok, Err, is_ok, inl, inr, refl, sym, ap, subst, ◌∙◌, arith}
use Rattle.std.proofs.lemmas.List.Elements.{All-nil, All-cons, All-weaker, All-contains, Contains-append_left, Contains-append_right, Contains-push}
use Rattle.std.specs.Prelude.{max}
use Rattle.std.specs.List.{list_all}
use Rattle.job_machine.specs.declared.replies.Refusal.{Refusal}
use Rattle.job_machine.specs.declared.replies.Refusal.TheVariants.{OutOfMemory}
use Rattle.page_core.specs.declared.summary.Summary.{Summary}
use Rattle.job_machine.specs.Reply.{Reply}
use Rattle.boxglue_program.specs.declared.outcome.Outcome.{Outcome}
use Rattle.boxglue_program.specs.declared.outcome.Outcome.TheVariants.{Accepted, Refused, LackedMemory}
use Rattle.boxglue_program.specs.Outcomes.{outcome_of, refusal_outcome, replies_outcome, run_outcome, worse_outcome}
use Rattle.boxglue_program.specs.Runs.{is_accepted}
use Rattle.boxglue_calls.specs.Buffers.{HandsOverBoth}
use Rattle.boxglue_calls.specs.RunStatus.{outcome_status, refusal_status, replies_status, reply_status, run_status}

max_turned : (a b c : ℕ) → max a (max b c) ≡ max (max a b) c
max_turned a b c = omega arith

max_from_0 : (a : ℕ) → a ≡ max 0 a
max_from_0 a = omega arith

max_with_0 : (a : ℕ) → max a 0 ≡ max 0 a
max_with_0 a = omega arith

-- The status of some replies and one more.
pub replies_more : (replies : List Reply) (reply : Reply) → replies_status (replies ++ reply ∷ []) ≡ max (replies_status replies) (reply_status reply)
replies_more [] reply = max_with_0 (reply_status reply)
replies_more (first ∷ rest) reply =
    ap (λ (n : ℕ). max (reply_status first) n) (replies_more rest reply) ∙ max_turned (reply_status first) (replies_status rest) (reply_status reply)

pub status_one_more : (status next new : ℕ) (replies : List Reply) (reply : Reply) → status ≡ replies_status replies → next ≡ reply_status reply → new ≡ max status next
    → new ≡ replies_status (replies ++ reply ∷ [])
status_one_more status next new replies reply h k is =
    is ∙ (ap (λ (n : ℕ). max n next) h ∙ (ap (λ (n : ℕ). max (replies_status replies) n) k ∙ sym (replies_more replies reply)))

-- The status of what was refused is that of the replies.
refusal_status_is : (refusal : Refusal) → outcome_status (refusal_outcome refusal) ≡ refusal_status refusal
refusal_status_is OutOfMemory = refl
refusal_status_is refusal = refl

pub reply_status_is : {A : Type 0} (reply : Result A Refusal) → outcome_status (outcome_of reply) ≡ reply_status reply
reply_status_is (Ok answer) = refl
reply_status_is (Err refusal) = refusal_status_is refusal

worse_status : (a b : Outcome) → outcome_status (worse_outcome a b) ≡ max (outcome_status a) (outcome_status b)
worse_status Accepted b = omega arith
worse_status Refused Accepted = refl
worse_status Refused Refused = refl
worse_status Refused LackedMemory = refl
worse_status LackedMemory Accepted = refl
worse_status LackedMemory Refused = refl
worse_status LackedMemory LackedMemory = refl

pub replies_status_is : (replies : List Reply) → outcome_status (replies_outcome replies) ≡ replies_status replies
replies_status_is [] = refl
replies_status_is (reply ∷ rest) =
    worse_status (outcome_of reply) (replies_outcome rest)
    ∙ (ap (λ (n : ℕ). max n (outcome_status (replies_outcome rest))) (reply_status_is reply) ∙ ap (λ (n : ℕ). max (reply_status reply) n) (replies_status_is rest))

pub run_status_is : (replies : List Reply) (end : Result Summary Refusal) → outcome_status (run_outcome replies end) ≡ run_status replies end
run_status_is replies end =
    worse_status (replies_outcome replies) (outcome_of end)
    ∙ (ap (λ (n : ℕ). max n (outcome_status (outcome_of end))) (replies_status_is replies) ∙ ap (λ (n : ℕ). max (replies_status replies) n) (reply_status_is end))

refusal_status_small : (refusal : Refusal) → refusal_status refusal ≤ 7
refusal_status_small OutOfMemory = omega arith
refusal_status_small refusal = omega arith

-- No status of replies is greater than 7.
pub reply_status_small : {A : Type 0} (reply : Result A Refusal) → reply_status reply ≤ 7
reply_status_small (Ok answer) = omega arith
reply_status_small (Err refusal) = refusal_status_small refusal

pub replies_status_small : (replies : List Reply) → replies_status replies ≤ 7
replies_status_small [] = omega arith
replies_status_small (reply ∷ rest) =
    let first : reply_status reply ≤ 7 = reply_status_small reply in
    let others : replies_status rest ≤ 7 = replies_status_small rest in
    omega (arith, first, others)

refusal_status_cases : (refusal : Refusal) → (refusal ≡ OutOfMemory) ⊎ (refusal_status refusal ≡ 1)
refusal_status_cases OutOfMemory = inl refl
refusal_status_cases refusal = inr refl

-- No reply has a greater status than all of them together.
none_greater : (replies : List Reply) → All (λ reply. reply_status reply ≤ replies_status replies) replies
none_greater [] = All-nil (λ reply. reply_status reply ≤ 0)
none_greater (reply ∷ rest) =
    All-cons (λ r. reply_status r ≤ replies_status (reply ∷ rest)) reply rest (omega arith)
    (All-weaker (λ r. reply_status r ≤ replies_status rest) (λ r. reply_status r ≤ replies_status (reply ∷ rest)) (λ r h. omega (arith, h)) rest (none_greater rest))

lacking : (replies : List Reply) → replies_status replies ≡ 7 → Contains replies (Err OutOfMemory)
lacking [] h = absurd (omega (arith, h))
lacking (Ok answer ∷ rest) h = Contains-append_right (Ok answer ∷ []) rest (Err OutOfMemory) (lacking rest (omega (arith, h)))
lacking (Err refusal ∷ rest) h = elim (refusal_status_cases refusal) [
  | inl memory ↦ subst (λ (r : Refusal). Contains (Err r ∷ rest) (Err OutOfMemory)) (sym memory) (Contains-append_left (Err OutOfMemory ∷ []) rest (Err OutOfMemory) (Contains-push [] (Err OutOfMemory)))
  | inr other ↦ Contains-append_right (Err refusal ∷ []) rest (Err OutOfMemory) (lacking rest (omega (arith, h, other)))
]

memory_is_7 : (replies : List Reply) → Contains replies (Err OutOfMemory) → replies_status replies ≡ 7
memory_is_7 replies has =
    let least : 7 ≤ replies_status replies = All-contains (λ reply. reply_status reply ≤ replies_status replies) replies (Err OutOfMemory) (none_greater replies) has in
    let most : replies_status replies ≤ 7 = replies_status_small replies in
    omega (arith, least, most)

pub lacking_at_7 : (replies : List Reply) → (replies_status replies ≡ 7) ↔ Contains replies (Err OutOfMemory)
lacking_at_7 replies = (lacking replies, memory_is_7 replies)

reply_lacking : {A : Type 0} (reply : Result A Refusal) → reply_status reply ≡ 7 → reply ≡ Err OutOfMemory
reply_lacking (Ok answer) h = absurd (omega (arith, h))
reply_lacking {A = A} (Err refusal) h = elim (refusal_status_cases refusal) [
  | inl memory ↦ ap (λ (r : Refusal). as_reply A r) memory
  | inr other ↦ absurd (omega (arith, h, other))
]
  where
    as_reply : (A : Type 0) → Refusal → Result A Refusal
    as_reply A r = Err r

pub end_lacking_at_7 : (end : Result Summary Refusal) → (reply_status end ≡ 7) ↔ (end ≡ Err OutOfMemory)
end_lacking_at_7 end = (reply_lacking end, λ is. ap reply_status is)

greater_is_7 : (a b : ℕ) → a ≤ 7 → b ≤ 7 → max a b ≡ 7 → (a ≡ 7) ⊎ (b ≡ 7)
greater_is_7 a b small other h = grind arith

pub run_lacking_at_7 : (replies : List Reply) (end : Result Summary Refusal)
    → (run_status replies end ≡ 7) ↔ (Contains replies (Err OutOfMemory) ⊎ (end ≡ Err OutOfMemory))
run_lacking_at_7 replies end =
    let most : replies_status replies ≤ 7 = replies_status_small replies in
    let last : reply_status end ≤ 7 = reply_status_small end in (
      λ h. elim (greater_is_7 (replies_status replies) (reply_status end) most last h) [
        | inl is ↦ inl (lacking replies is)
        | inr is ↦ inr (reply_lacking end is)
      ],
      λ either. elim either [
        | inl has ↦ let is = memory_is_7 replies has in omega (arith, is, last)
        | inr is ↦ let at : reply_status end ≡ 7 = ap reply_status is in omega (arith, at, most)
      ],
    )

refusal_status_above_0 : (refusal : Refusal) → 1 ≤ refusal_status refusal
refusal_status_above_0 OutOfMemory = omega arith
refusal_status_above_0 refusal = omega arith

accepted : (replies : List Reply) → replies_status replies ≡ 0 → list_all is_ok replies ≡ true
accepted [] h = refl
accepted (Ok answer ∷ rest) h = accepted rest (omega (arith, h))
accepted (Err refusal ∷ rest) h = let least : 1 ≤ refusal_status refusal = refusal_status_above_0 refusal in absurd (omega (arith, h, least))

none_refused : (replies : List Reply) → list_all is_ok replies ≡ true → replies_status replies ≡ 0
none_refused [] h = refl
none_refused (Ok answer ∷ rest) h = let others : replies_status rest ≡ 0 = none_refused rest h in omega (arith, others)
none_refused (Err refusal ∷ rest) h = absurd (cc)

pub accepted_at_0 : (replies : List Reply) → (replies_status replies ≡ 0) ↔ (list_all is_ok replies ≡ true)
accepted_at_0 replies = (accepted replies, none_refused replies)

end_accepted : (end : Result Summary Refusal) → reply_status end ≡ 0 → is_ok end ≡ true
end_accepted (Ok summary) h = refl
end_accepted (Err refusal) h = let least : 1 ≤ refusal_status refusal = refusal_status_above_0 refusal in absurd (omega (arith, h, least))

end_not_refused : (end : Result Summary Refusal) → is_ok end ≡ true → reply_status end ≡ 0
end_not_refused (Ok summary) h = refl
end_not_refused (Err refusal) h = absurd (cc)

both_true : (a b : Bool) → a ≡ true → b ≡ true → (a && b) ≡ true
both_true a b h k = cc

each_true : (a b : Bool) → (a && b) ≡ true → (a ≡ true) × (b ≡ true)
each_true true true h = (refl, refl)
each_true true false h = absurd (cc)
each_true false b h = absurd (cc)

pub run_accepted_at_0 : (replies : List Reply) (end : Result Summary Refusal) → (run_status replies end ≡ 0) ↔ (is_accepted replies end ≡ true)
run_accepted_at_0 replies end = (
  λ h. both_true (list_all is_ok replies) (is_ok end) (accepted replies (omega (arith, h))) (end_accepted end (omega (arith, h))),
  λ h.
      let each = each_true (list_all is_ok replies) (is_ok end) h in
      let all : replies_status replies ≡ 0 = none_refused replies each.0 in
      let last : reply_status end ≡ 0 = end_not_refused end each.1 in
      omega (arith, all, last),
)

-- The statuses of a run that was done.
abbrev pub IsDone : ℕ → Type 0
IsDone status = (status ≡ 0) ⊎ (status ≡ 1) ⊎ (status ≡ 7)

reply_done : {A : Type 0} (reply : Result A Refusal) → IsDone (reply_status reply)
reply_done (Ok answer) = inl refl
reply_done (Err refusal) = elim (refusal_status_cases refusal) [
  | inl memory ↦ inr (inr (ap refusal_status memory))
  | inr other ↦ inr (inl other)
]

greatest_done : (a b : ℕ) → IsDone a → IsDone b → IsDone (max a b)
greatest_done a b (inl h) (inl k) = inl (omega (arith, h, k))
greatest_done a b (inl h) (inr (inl k)) = inr (inl (omega (arith, h, k)))
greatest_done a b (inl h) (inr (inr k)) = inr (inr (omega (arith, h, k)))
greatest_done a b (inr (inl h)) (inl k) = inr (inl (omega (arith, h, k)))
greatest_done a b (inr (inl h)) (inr (inl k)) = inr (inl (omega (arith, h, k)))
greatest_done a b (inr (inl h)) (inr (inr k)) = inr (inr (omega (arith, h, k)))
greatest_done a b (inr (inr h)) (inl k) = inr (inr (omega (arith, h, k)))
greatest_done a b (inr (inr h)) (inr (inl k)) = inr (inr (omega (arith, h, k)))
greatest_done a b (inr (inr h)) (inr (inr k)) = inr (inr (omega (arith, h, k)))

replies_done : (replies : List Reply) → IsDone (replies_status replies)
replies_done [] = inl refl
replies_done (reply ∷ rest) = greatest_done (reply_status reply) (replies_status rest) (reply_done reply) (replies_done rest)

pub run_done : (replies : List Reply) (end : Result Summary Refusal) → IsDone (run_status replies end)
run_done replies end = greatest_done (replies_status replies) (reply_status end) (replies_done replies) (reply_done end)

other_status : (done status : ℕ) → IsDone done → status ≡ done → (status ≡ 2) ⊎ (status ≡ 3) → ⊥
other_status done status (inl h) is (inl e) = omega (arith, h, is, e)
other_status done status (inl h) is (inr e) = omega (arith, h, is, e)
other_status done status (inr (inl h)) is (inl e) = omega (arith, h, is, e)
other_status done status (inr (inl h)) is (inr e) = omega (arith, h, is, e)
other_status done status (inr (inr h)) is (inl e) = omega (arith, h, is, e)
other_status done status (inr (inr h)) is (inr e) = omega (arith, h, is, e)

-- Outputs of a run that was done are handed over with no status of a call that has no result.
pub handed_over : {A : Type 0} (old new items : List A) (text_old text_new text : List ℕ) (done status : ℕ) → IsDone done
    → HandsOverBoth (record { old = old; new = new; items = items }) (record { old = text_old; new = text_new; items = text }) done status → (status ≡ 2) ⊎ (status ≡ 3) → ⊥
handed_over old new items text_old text_new text done status is (inl (first, second, h)) e = other_status done status is h e
handed_over old new items text_old text_new text done status is (inr (small, first, second, h)) (inl e) = omega (arith, h, e)
handed_over old new items text_old text_new text done status is (inr (small, first, second, h)) (inr e) = omega (arith, h, e)
