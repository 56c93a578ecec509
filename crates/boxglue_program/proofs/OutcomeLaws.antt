-- What was refused of some commands, taken together.
use Rattle.std.proofs.Common.{◌≡◌, ◌&&◌, ◌++◌, ◌∷◌, [], Bool, false, List, Result, Ok, Err, is_ok, refl, sym, ap, ◌∙◌}
use Rattle.std.specs.List.{list_all}
use Rattle.job_machine.specs.declared.replies.Refusal.{Refusal}
use Rattle.job_machine.specs.declared.replies.Refusal.TheVariants.{OutOfMemory}
use Rattle.page_core.specs.declared.summary.Summary.{Summary}
use Rattle.job_machine.specs.Reply.{Reply}
use Rattle.boxglue_program.specs.declared.outcome.Outcome.{Outcome}
use Rattle.boxglue_program.specs.declared.outcome.Outcome.TheVariants.{Accepted, Refused, LackedMemory}
use Rattle.boxglue_program.specs.Outcomes.{is_accepting, outcome_of, refusal_outcome, replies_outcome, run_outcome, worse_outcome}
use Rattle.boxglue_program.specs.Runs.{is_accepted}

worse_turned : (a b c : Outcome) → worse_outcome a (worse_outcome b c) ≡ worse_outcome (worse_outcome a b) c
worse_turned Accepted b c = refl
worse_turned Refused Accepted c = refl
worse_turned Refused Refused Accepted = refl
worse_turned Refused Refused Refused = refl
worse_turned Refused Refused LackedMemory = refl
worse_turned Refused LackedMemory c = refl
worse_turned LackedMemory b c = refl

worse_at_last : (a : Outcome) → worse_outcome a Accepted ≡ a
worse_at_last Accepted = refl
worse_at_last Refused = refl
worse_at_last LackedMemory = refl

-- What was refused of some commands and one more.
outcome_more : (replies : List Reply) (reply : Reply) → replies_outcome (replies ++ reply ∷ []) ≡ worse_outcome (replies_outcome replies) (outcome_of reply)
outcome_more [] reply = worse_at_last (outcome_of reply)
outcome_more (first ∷ rest) reply =
    ap (λ (outcome : Outcome). worse_outcome (outcome_of first) outcome) (outcome_more rest reply) ∙ worse_turned (outcome_of first) (replies_outcome rest) (outcome_of reply)

-- What was refused of some commands and of others after them.
pub outcome_joined : (replies others : List Reply) → replies_outcome (replies ++ others) ≡ worse_outcome (replies_outcome replies) (replies_outcome others)
outcome_joined [] others = refl
outcome_joined (first ∷ rest) others =
    ap (λ (outcome : Outcome). worse_outcome (outcome_of first) outcome) (outcome_joined rest others) ∙ worse_turned (outcome_of first) (replies_outcome rest) (replies_outcome others)

pub outcome_one_more : (outcome next new : Outcome) (replies : List Reply) (reply : Reply) → outcome ≡ replies_outcome replies → next ≡ outcome_of reply → new ≡ worse_outcome outcome next
    → new ≡ replies_outcome (replies ++ reply ∷ [])
outcome_one_more outcome next new replies reply h k is =
    is ∙ (ap (λ (o : Outcome). worse_outcome o next) h ∙ (ap (λ (o : Outcome). worse_outcome (replies_outcome replies) o) k ∙ sym (outcome_more replies reply)))

pub outcome_at_end : (outcome next new : Outcome) (replies : List Reply) (end : Result Summary Refusal) → outcome ≡ replies_outcome replies → next ≡ outcome_of end → new ≡ worse_outcome outcome next
    → new ≡ run_outcome replies end
outcome_at_end outcome next new replies end h k is = is ∙ (ap (λ (o : Outcome). worse_outcome o next) h ∙ ap (λ (o : Outcome). worse_outcome (replies_outcome replies) o) k)

both_accepting : (a b : Outcome) → is_accepting (worse_outcome a b) ≡ (is_accepting a && is_accepting b)
both_accepting Accepted b = refl
both_accepting Refused Accepted = refl
both_accepting Refused Refused = refl
both_accepting Refused LackedMemory = refl
both_accepting LackedMemory b = refl

refusal_not_accepting : (refusal : Refusal) → is_accepting (refusal_outcome refusal) ≡ false
refusal_not_accepting OutOfMemory = refl
refusal_not_accepting refusal = refl

one_accepting : {A : Type 0} (reply : Result A Refusal) → is_accepting (outcome_of reply) ≡ is_ok reply
one_accepting (Ok answer) = refl
one_accepting (Err refusal) = refusal_not_accepting refusal

both_are : (a b c d : Bool) → a ≡ c → b ≡ d → (a && b) ≡ (c && d)
both_are a b c d h k = ap (λ (x : Bool). x && b) h ∙ ap (λ (x : Bool). c && x) k

-- Nothing was refused of some commands if each was accepted.
pub accepting_all : (replies : List Reply) → is_accepting (replies_outcome replies) ≡ list_all is_ok replies
accepting_all [] = refl
accepting_all (reply ∷ rest) =
    both_accepting (outcome_of reply) (replies_outcome rest)
    ∙ both_are (is_accepting (outcome_of reply)) (is_accepting (replies_outcome rest)) (is_ok reply) (list_all is_ok rest) (one_accepting reply) (accepting_all rest)

-- Nothing was refused of a run if its commands and its end were accepted.
pub accepting_run : (replies : List Reply) (end : Result Summary Refusal) → is_accepting (run_outcome replies end) ≡ is_accepted replies end
accepting_run replies end =
    both_accepting (replies_outcome replies) (outcome_of end)
    ∙ both_are (is_accepting (replies_outcome replies)) (is_accepting (outcome_of end)) (list_all is_ok replies) (is_ok end) (accepting_all replies) (one_accepting end)
