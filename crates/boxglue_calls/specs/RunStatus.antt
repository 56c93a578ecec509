-- The status of a run, from its replies (own).
use Rattle.std.specs.Prelude.{ℕ, List, [], ◌∷◌, max, Result, Ok, Err}
use Rattle.job_machine.specs.declared.replies.Refusal.{Refusal}
use Rattle.job_machine.specs.declared.replies.Refusal.TheVariants.{OutOfMemory}
use Rattle.page_core.specs.declared.summary.Summary.{Summary}
use Rattle.job_machine.specs.Reply.{Reply}
use Rattle.boxglue_program.specs.declared.outcome.Outcome.{Outcome}
use Rattle.boxglue_program.specs.declared.outcome.Outcome.TheVariants.{Accepted, Refused, LackedMemory}

-- The status of a refusal: 7 where memory was refused, else 1.
abbrev pub refusal_status : Refusal → ℕ
refusal_status OutOfMemory = 7
refusal_status refusal = 1

-- The status of a reply, or of the end of a job: that of its refusal, and 0 where it is none.
abbrev pub reply_status : {A : Type 0} → Result A Refusal → ℕ
reply_status (Ok answer) = 0
reply_status (Err refusal) = refusal_status refusal

-- The status of some replies is the greatest of theirs: 7 where one of them is OutOfMemory, 0 where none is a refusal, else 1.
abbrev pub replies_status : List Reply → ℕ
replies_status [] = 0
replies_status (reply ∷ rest) = max (reply_status reply) (replies_status rest)

-- The status of a run with these replies and this end.
abbrev pub run_status : List Reply → Result Summary Refusal → ℕ
run_status replies end = max (replies_status replies) (reply_status end)

-- The status of a run of which this was refused.
abbrev pub outcome_status : Outcome → ℕ
outcome_status Accepted = 0
outcome_status Refused = 1
outcome_status LackedMemory = 7
