-- What the line says, and the line's answer.
use Rattle.std.proofs.Common.{◌≡◌, ◌+◌, ◌*◌, ◌≤◌, ◌++◌, [], ℕ, List, length, arith, ap, sym, refl, ◌∙◌, vec_len, vec_capacity}
use Rattle.std.proofs.lemmas.List.{append-nil}
use Rattle.boxglue_program.specs.Runs.{line_numbers}
use Rattle.boxglue_program.specs.Texts.{answer_lines, script_refusal_text}
use Rattle.boxglue_program.proofs.DialogLaws.{nothing_answered, command_answered, bad_answered}
use Rattle.boxglue_program.proofs.dialog.answer_line.Goals as goal

appended : (old now new text : List ℕ) → now ≡ old → new ≡ now ++ text → new ≡ old ++ text
appended old now new text same is = is ∙ ap (λ (l : List ℕ). l ++ text) same

pub returns-in-Nothing-clause-ok : goal.returns-in-Nothing-clause-ok
returns-in-Nothing-clause-ok g c =
    ([], sym (append-nil c.args.answers.now.items), nothing_answered c.args.job.now c.args.before c.args.line.now (rw c.in-Nothing.is at c.in_ok-read_line.ensures.said))

pub returns-in_ok-reserve-in-Command-clause-ok : goal.returns-in_ok-reserve-in-Command-clause-ok
returns-in_ok-reserve-in-Command-clause-ok g c =
    let says = rw c.in-Command.is at c.in_ok-read_line.ensures.said in
    let run = c.run_lines-run.ensures in
    let ran = run.ran in
    let answer = answer_lines (line_numbers c.from_ref.result.now) ran.0 in
    let fits : vec_len c.reserve.new.self + 512 * length c.from_ref.result.now ≤ vec_capacity c.reserve.new.self =
    omega (arith, c.from_ref.ensures.len, c.in_ok-reserve-in-Command.ensures.ok) in (
      answer,
      appended c.args.answers.now.items c.reserve.new.self.items c.run_lines-run.new.answers.items answer c.in_ok-reserve-in-Command.ensures.items
          (ran.3 (run.space fits)),
      command_answered c.args.job.now c.run_lines-run.new.job c.args.before c.args.line.now (record { number = c.args.before + 1; command = c.in-Command.command }) c.from_ref.result.now ran.0 c.run_lines-run.result.outcome c.is_accepting.result says refl c.from_ref.ensures.value ran.1 ran.2 ran.5 c.is_accepting.ensures
          run.goes_on,
    )

pub returns-in_ok-push_script_refusal-in-Bad-clause-ok : goal.returns-in_ok-push_script_refusal-in-Bad-clause-ok
returns-in_ok-push_script_refusal-in-Bad-clause-ok g c = (
  script_refusal_text (c.args.before + 1) c.in-Bad.cause,
  c.in_ok-push_script_refusal-in-Bad.ensures.ok,
  bad_answered c.args.job.now c.args.before c.args.line.now c.in-Bad.cause (rw c.in-Bad.is at c.in_ok-read_line.ensures.said),
)
