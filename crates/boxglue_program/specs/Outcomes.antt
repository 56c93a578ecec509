-- What was refused of some commands, taken together (own).
use Rattle.std.specs.Prelude.{Bool, false, true, List, [], ◌∷◌, Result, Ok, Err}
use Rattle.job_machine.specs.declared.replies.Refusal.{Refusal}
use Rattle.job_machine.specs.declared.replies.Refusal.TheVariants.{OutOfMemory}
use Rattle.page_core.specs.declared.summary.Summary.{Summary}
use Rattle.job_machine.specs.Reply.{Reply}
use Rattle.boxglue_program.specs.declared.outcome.Outcome.{Outcome}
use Rattle.boxglue_program.specs.declared.outcome.Outcome.TheVariants.{Accepted, Refused, LackedMemory}

-- What a refusal is: memory was refused, or something else.
abbrev pub refusal_outcome : Refusal → Outcome
refusal_outcome OutOfMemory = LackedMemory
refusal_outcome refusal = Refused

-- What was refused of one command, or of the end of a job.
abbrev pub outcome_of : {A : Type 0} → Result A Refusal → Outcome
outcome_of (Ok answer) = Accepted
outcome_of (Err refusal) = refusal_outcome refusal

-- What was refused of both: refused memory outweighs other refusals, and these outweigh none.
abbrev pub worse_outcome : Outcome → Outcome → Outcome
worse_outcome Accepted other = other
worse_outcome Refused Accepted = Refused
worse_outcome Refused other = other
worse_outcome LackedMemory other = LackedMemory

-- What was refused of the commands with these replies.
abbrev pub replies_outcome : List Reply → Outcome
replies_outcome [] = Accepted
replies_outcome (reply ∷ rest) = worse_outcome (outcome_of reply) (replies_outcome rest)

-- What was refused of a run with these replies and this end.
abbrev pub run_outcome : List Reply → Result Summary Refusal → Outcome
run_outcome replies end = worse_outcome (replies_outcome replies) (outcome_of end)

-- Nothing was refused.
abbrev pub is_accepting : Outcome → Bool
is_accepting Accepted = true
is_accepting other = false
