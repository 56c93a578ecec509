use Rattle.std.proofs.Common.{◌≡◌, sym, subst}
use Rattle.break_lines.specs.Costs.{line_alone}
use Rattle.break_core.specs.Private.Held.{IsCostBelow}
use Rattle.break_core.proofs.Held.{fits_below}
use Rattle.break_core.proofs.counted.are_below.Goals as goal

pub returns-then-is_same_fit-2 : goal.returns-then-is_same_fit-2
returns-then-is_same_fit-2 c = λ yes.
    let rules = c.args.at.now.rules.now in
    let penalty = c.args.at.now.penalty in
    let a = c.args.a.now in
    let b = c.args.b.now in
    let same_a : a.first ≡ a.rest = c.is_same_fit.ensures c.if-is_same_fit.true in
    let same_b : b.first ≡ b.rest = c.is_same_fit-then-is_same_fit.ensures c.if-is_same_fit-2.true in
    let rest : IsCostBelow (line_alone rules.params.now rules.bound penalty a.rest) (line_alone rules.params.now rules.bound penalty b.rest) = c.is_fit_below.ensures yes in
    fits_below rules.params.now rules.bound penalty a b
    (subst (λ x. IsCostBelow (line_alone rules.params.now rules.bound penalty x) (line_alone rules.params.now rules.bound penalty b.first)) (sym same_a)
    (subst (λ y. IsCostBelow (line_alone rules.params.now rules.bound penalty a.rest) (line_alone rules.params.now rules.bound penalty y)) (sym same_b) rest))
    rest

pub returns-then-is_fit_below : goal.returns-then-is_fit_below
returns-then-is_fit_below c = λ yes.
    let rules = c.args.at.now.rules.now in
    fits_below rules.params.now rules.bound c.args.at.now.penalty c.args.a.now c.args.b.now (c.is_fit_below-2.ensures c.if-is_fit_below.true)
    (c.is_fit_below-then-is_fit_below.ensures yes)
