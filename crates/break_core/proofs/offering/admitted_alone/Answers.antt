use Rattle.std.proofs.Common.{◌≡◌, ◌∙◌, to_z, of_z, w32, ap, sym, arith}
use Rattle.std.proofs.lemmas.Int.{ints}
use Rattle.break_lines.specs.declared.cost.Bound.TheVariants.{Any}
use Rattle.break_lines.specs.Costs.{line_alone}
use Rattle.break_core.proofs.Admitted.{alone_admitted, alone_refused}
use Rattle.break_core.proofs.offering.admitted_alone.Goals as goal

pub returns-then-not-is_admitted-clause-value : goal.returns-then-not-is_admitted-clause-value
returns-then-not-is_admitted-clause-value c =
    alone_refused c.args.rules.now.params.now c.args.rules.now.bound c.args.penalty c.args.fit.now
    (sym c.is_admitted.ensures ∙ c.if-not-is_admitted.true)

pub returns-clause-value : goal.returns-clause-value
returns-clause-value c =
    let penalty : to_z w32 (of_z w32 c.args.penalty) ≡ c.args.penalty = omega (arith, ints) in
    c.line_alone.ensures.value ∙ ap (λ x. line_alone c.args.rules.now.params.now Any x c.args.fit.now) penalty
    ∙ alone_admitted c.args.rules.now.params.now c.args.rules.now.bound c.args.penalty c.args.fit.now
    (sym c.is_admitted.ensures ∙ c.if-not-is_admitted.false)
