-- One more line has its number.
use Rattle.std.proofs.Common.{ℕ, List, get_or, set, ap, ◌∙◌}
use Rattle.boxglue_script.specs.declared.script.Line.{Line}
use Rattle.boxglue_calls.specs.Numbers.{number_after}
use Rattle.boxglue_calls.proofs.LineNumbers.{map_next}
use Rattle.boxglue_calls.proofs.jobs.numbering.number_on.Goals as goal

pub loop-line-preserved : goal.loop-line-preserved
loop-line-preserved c =
    let i = c.loop-line.line-index in
    let lines = c.loop-line.lines in
    let line = c.line-item.result in
    let renumber : Line → Line = λ l. record { number = number_after c.args.before l.number; command = l.command } in
    ap (λ (n : ℕ). set lines i (record { number = n; command = (get_or lines i line).command })) c.number_after-line.ensures
    ∙ (ap (λ (xs : List Line). set xs i (renumber (get_or xs i line))) c.loop-line.invariant ∙ map_next renumber c.args.lines.now i line c.loop-line-test.true)
