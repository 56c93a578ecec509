-- The reply of a job to a command (own).
use Rattle.std.specs.Prelude.{Result}
use Rattle.job_machine.specs.declared.replies.Answer.{Answer}
use Rattle.job_machine.specs.declared.replies.Refusal.{Refusal}

-- An answer, or a refusal.
abbrev pub Reply : Type 0
Reply = Result Answer Refusal
