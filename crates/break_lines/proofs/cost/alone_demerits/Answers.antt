use Rattle.std.proofs.Common.{◌≡◌, ◌∙◌, ◌+ℤ◌, to_z, of_z, w32, w64, ap, arith}
use Rattle.std.proofs.lemmas.Int.{ints}
use Rattle.break_lines.specs.Costs.{base_demerits, penalty_demerits}
use Rattle.break_lines.proofs.cost.alone_demerits.Goals as goal

pub returns-clause-value : goal.returns-clause-value
returns-clause-value c =
    let b = c.base_demerits-base.result in
    let x = c.penalty_demerits.result in
    let sum : to_z w64 (of_z w64 (to_z w64 (of_z w64 c.base_demerits-base.result) +ℤ to_z w64 (of_z w64 c.penalty_demerits.result)))
    ≡ c.base_demerits-base.result +ℤ c.penalty_demerits.result = omega (arith, ints) in
    let penalty : to_z w32 (of_z w32 c.args.penalty) ≡ c.args.penalty = omega (arith, ints) in
    sum ∙ ap (λ y. y +ℤ x) c.base_demerits-base.ensures.value
    ∙ ap (λ y. base_demerits c.args.params.now c.args.badness +ℤ y) (c.penalty_demerits.ensures.value ∙ ap penalty_demerits penalty)
