use Rattle.std.proofs.Common.{◌≡◌, ◌∙◌, to_z, of_z, w64, ap, arith}
use Rattle.std.specs.Prelude.{ℤ, pos, int_le}
use Rattle.std.proofs.lemmas.Int.{ints}
use Rattle.break_core.specs.Private.Active.{most_admitted}
use Rattle.break_core.proofs.Admitted.{overfull_admitted, admitted_by}
use Rattle.break_core.proofs.offering.is_admitted.Goals as goal

pub returns-then-fit : goal.returns-then-fit
returns-then-fit c = c.admits_overfull.ensures ∙ overfull_admitted c.args.rules.now.bound c.args.fit.now c.if-fit.true

pub returns : goal.returns
returns c =
    let rules = c.args.rules.now in
    let badness : to_z w64 (of_z w64 c.from.result) ≡ pos c.args.fit.now.badness = omega (arith, ints, c.from.ensures) in
    let most : to_z w64 (of_z w64 rules.most) ≡ most_admitted rules.bound = omega (arith, ints, rules.admitted) in
    ap (λ (x : ℤ). int_le x (to_z w64 (of_z w64 rules.most))) badness ∙ ap (int_le (pos c.args.fit.now.badness)) most
    ∙ admitted_by rules.bound c.args.fit.now c.requires.badness c.if-fit.false
