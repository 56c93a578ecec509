use Rattle.std.proofs.Common.{◌∙◌, ap, arith}
use Rattle.std.proofs.lemmas.Int.{ints}
use Rattle.pack_core.specs.declared.orders.OrderAmounts.{OrderAmounts}
use Rattle.vert_core.proofs.Walks.{badness-front}
use Rattle.vert_core.proofs.sums.front_badness.Goals as goal

pub returns : goal.returns
returns c = λ front at.
    let most = ap (λ (a : OrderAmounts). a.normal) c.shrink.ensures.value in
    c.badness_to.ensures
    ∙ badness-front c.args.params.now c.args.goal c.args.totals.now _ _ _ front (omega (arith, ints, c.natural-natural.ensures.value)) c.stretch.ensures.value
    (omega (arith, ints, most, c.shrink.ensures.bound.normal)) at
