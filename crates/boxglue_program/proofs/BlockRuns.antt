-- Lines that are run in blocks.
use Rattle.std.proofs.Common.{◌≡◌, ◌+◌, ◌++◌, ◌∷◌, [], Bool, true, ℕ, List, length, refl, ap, sym, subst, append_assoc, arith, ◌∙◌}
use Rattle.std.proofs.lemmas.List.{length-append, map-append}
use Rattle.job_machine.specs.declared.command.Command.{Command}
use Rattle.job_machine.specs.Reply.{Reply}
use Rattle.job_core.specs.Jobs.{JobView, RunsTo}
use Rattle.job_core.proofs.WholeRuns.{runs_joined}
use Rattle.boxglue_script.specs.declared.script.Line.{Line}
use Rattle.boxglue_program.specs.declared.outcome.Outcome.{Outcome}
use Rattle.boxglue_program.specs.Outcomes.{replies_outcome, worse_outcome}
use Rattle.boxglue_program.specs.Runs.{commands_of, line_numbers}
use Rattle.boxglue_program.specs.Texts.{answer_line, answer_lines}
use Rattle.boxglue_program.proofs.OutcomeLaws.{outcome_joined}

-- Lines were run on a job and answered after what was there.
abbrev pub WereRun : (old new : JobView) → (start now : List ℕ) → (are_answers_kept : Bool) → Outcome → List Line → Type 0
WereRun old new start now are_answers_kept outcome lines =
    (replies : List Reply) × RunsTo old (commands_of lines) replies new × (length replies ≡ length lines)
    × (are_answers_kept ≡ true → now ≡ start ++ answer_lines (line_numbers lines) replies) × (outcome ≡ replies_outcome replies)

answers_joined : (lines more : List Line) (replies others : List Reply) → length replies ≡ length lines
    → answer_lines (line_numbers (lines ++ more)) (replies ++ others) ≡ answer_lines (line_numbers lines) replies ++ answer_lines (line_numbers more) others
answers_joined [] more [] others h = refl
answers_joined [] more (reply ∷ replies) others h = absurd (omega (arith, h))
answers_joined (line ∷ lines) more [] others h = absurd (omega (arith, h))
answers_joined (line ∷ lines) more (reply ∷ replies) others h =
    ap (λ (rest : List ℕ). answer_line line.number reply ++ rest) (answers_joined lines more replies others (omega (arith, h)))
    ∙ sym (append_assoc (answer_line line.number reply) (answer_lines (line_numbers lines) replies) (answer_lines (line_numbers more) others))

-- Lines that were run after others.
pub run_further : (old middle new : JobView) (start now later : List ℕ) (are_answers_kept next all : Bool) (outcome after whole : Outcome) (lines more : List Line)
    → WereRun old middle start now are_answers_kept outcome lines → WereRun middle new now later next after more
    → whole ≡ worse_outcome outcome after → (all ≡ true → (are_answers_kept ≡ true) × (next ≡ true)) → WereRun old new start later all whole (lines ++ more)
run_further old middle new start now later are_answers_kept next all outcome after whole lines more first second is both = (
  first.0 ++ second.0,
  subst (λ (xs : List Command). RunsTo old xs (first.0 ++ second.0) new) (sym (map-append (λ (line : Line). line.command) lines more))
      (runs_joined old middle new (commands_of lines) (commands_of more) first.0 second.0 first.1 second.1),
  length-append first.0 second.0 ∙ (ap (λ (n : ℕ). n + length second.0) first.2 ∙ (ap (λ (n : ℕ). length lines + n) second.2 ∙ sym (length-append lines more))),
  λ given.
      let (here, there) = both given in
      second.3 there
      ∙ (ap (λ (text : List ℕ). text ++ answer_lines (line_numbers more) second.0) (first.3 here)
      ∙ (append_assoc start (answer_lines (line_numbers lines) first.0) (answer_lines (line_numbers more) second.0)
      ∙ ap (λ (text : List ℕ). start ++ text) (sym (answers_joined lines more first.0 second.0 first.2)))),
  is ∙ (ap (λ (o : Outcome). worse_outcome o after) first.4 ∙ (ap (λ (o : Outcome). worse_outcome (replies_outcome first.0) o) second.4 ∙ sym (outcome_joined first.0 second.0))),
)
