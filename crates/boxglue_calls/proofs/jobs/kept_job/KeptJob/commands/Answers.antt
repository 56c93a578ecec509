-- The piece that was run.
use Rattle.std.proofs.Common.{◌≡◌, ◌++◌, ℕ, List, length, take, drop, inl, ap, refl, ◌∙◌, subst}
use Rattle.std.proofs.Math.Seq.{take-append_seam}
use Rattle.boxglue_script.specs.declared.script.Line.{Line}
use Rattle.boxglue_calls.specs.Jobs.{KeptState}
use Rattle.boxglue_calls.specs.Numbers.{number_after, numbered_lines}
use Rattle.boxglue_calls.specs.Pieces.{DoesCommands}
use Rattle.boxglue_program.specs.Runs.{line_numbers}
use Rattle.boxglue_program.specs.Texts.{answer_lines}
use Rattle.boxglue_calls.specs.RunStatus.{outcome_status}
use Rattle.boxglue_calls.proofs.StatusLaws.{replies_status_is}
use Rattle.boxglue_calls.proofs.KeptMoves.{kept_answers, ran_piece}
use Rattle.boxglue_calls.proofs.PieceLaws.{length_numbered}
use Rattle.boxglue_calls.proofs.jobs.kept_job.KeptJob.commands.Goals as goal

pub returns : goal.returns
returns c =
    let inside = c.self.inside in
    let old : KeptState = record { job = inside.job; lines = inside.lines; answers = inside.answers.items; taken = inside.taken } in
    let run = c.run_lines-run in
    let ran = run.ensures.ran in
    let new = c.number_on.new.lines in
    let size : length new ≡ c.in-Ok.lines.len = ap length c.number_on.ensures ∙ (length_numbered old.lines c.deref_mut.result.now ∙ c.deref_mut.ensures.len) in
    let all : take c.in-Ok.lines.len (new ++ drop (length new) c.in-Ok.lines.items) ≡ new =
    subst (λ (n : ℕ). take n (new ++ drop (length new) c.in-Ok.lines.items) ≡ new) size (take-append_seam new (drop (length new) c.in-Ok.lines.items)) in
    let now : KeptState = record { job = run.new.job; lines = c.number_after-self-inside.result; answers = run.new.answers.items; taken = inside.taken } in
    subst (λ (o : KeptState). DoesCommands c.args.script.now o now c.kept_status.result) c.self.view_is
    (inl (ran_piece old now run.new.job c.args.script.now c.in-Ok.lines.items c.deref.result.now ran.0 _ c.kept_status.result
    (c.deref.ensures.value ∙ (all ∙ (c.number_on.ensures ∙ ap (λ (lines : List Line). numbered_lines old.lines lines) c.deref_mut.ensures.value))) c.in-Ok.ensures.lines ran.1 run.ensures.idle run.ensures.goes_on ran.2
    refl (c.number_after-self-inside.ensures ∙ ap (λ (n : ℕ). number_after old.lines n) c.line_count.ensures) refl
    (kept_answers old.answers now.answers (answer_lines (line_numbers c.deref.result.now) ran.0) run.result.are_answers_kept c.outcome_status.result c.kept_status.result ran.3 ran.4 c.kept_status.ensures)
    (c.outcome_status.ensures ∙ (ap outcome_status ran.5 ∙ replies_status_is ran.0))))
