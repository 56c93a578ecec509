use Rattle.std.proofs.Common.{◌≡◌, to_z, of_z, w32, arith, subst}
use Rattle.std.proofs.lemmas.Int.{ints}
use Rattle.break_lines.specs.Costs.{line_alone}
use Rattle.break_core.specs.Private.Held.{IsCostBelow}
use Rattle.break_core.proofs.counted.is_fit_below.Goals as goal

pub line_alone-first-requires-clause-penalty : goal.line_alone-first-requires-clause-penalty
line_alone-first-requires-clause-penalty c = omega (arith, ints, c.requires.penalty)

pub line_alone-second-requires-clause-penalty : goal.line_alone-second-requires-clause-penalty
line_alone-second-requires-clause-penalty c = omega (arith, ints, c.requires.penalty)

pub returns : goal.returns
returns c = λ yes.
    let rules = c.args.at.now.rules.now in
    let n = to_z w32 (of_z w32 c.args.at.now.penalty) in
    let penalty : n ≡ c.args.at.now.penalty = omega (arith, ints) in
    subst (λ x. IsCostBelow (line_alone rules.params.now rules.bound x c.args.a.now) (line_alone rules.params.now rules.bound x c.args.b.now)) penalty
    (subst (λ x. IsCostBelow x (line_alone rules.params.now rules.bound n c.args.b.now)) c.line_alone-first.ensures.value
    (subst (IsCostBelow c.line_alone-first.result) c.line_alone-second.ensures.value (c.is_below.ensures yes)))
