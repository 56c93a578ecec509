use Rattle.std.proofs.Common.{◌∙◌, ap, sym}
use Rattle.break_lines.specs.declared.state.BreakState.{BreakState}
use Rattle.break_lines.specs.declared.state.Fitness.TheVariants.{VeryLoose, Loose, Decent, Tight}
use Rattle.break_core.proofs.BestEntries.{before_each}
use Rattle.break_core.proofs.offering.offers_before.Goals as goal

pub returns-in-VeryLoose : goal.returns-in-VeryLoose
returns-in-VeryLoose c =
    before_each c.args.params.now c.args.entry c.args.index VeryLoose c.offer_before-below.result c.offer_before-above.result
    (sym c.in-VeryLoose.is ∙ ap (λ (s : BreakState). s.class) c.end.ensures.end) c.offer_before-below.ensures c.offer_before-above.ensures

pub returns-in-Loose : goal.returns-in-Loose
returns-in-Loose c =
    before_each c.args.params.now c.args.entry c.args.index Loose c.offer_before-below.result c.offer_before-above.result
    (sym c.in-Loose.is ∙ ap (λ (s : BreakState). s.class) c.end.ensures.end) c.offer_before-below.ensures c.offer_before-above.ensures

pub returns-in-Decent : goal.returns-in-Decent
returns-in-Decent c =
    before_each c.args.params.now c.args.entry c.args.index Decent c.offer_before-below.result c.offer_before-above.result
    (sym c.in-Decent.is ∙ ap (λ (s : BreakState). s.class) c.end.ensures.end) c.offer_before-below.ensures c.offer_before-above.ensures

pub returns-in-Tight : goal.returns-in-Tight
returns-in-Tight c =
    before_each c.args.params.now c.args.entry c.args.index Tight c.offer_before-below.result c.offer_before-above.result
    (sym c.in-Tight.is ∙ ap (λ (s : BreakState). s.class) c.end.ensures.end) c.offer_before-below.ensures c.offer_before-above.ensures
