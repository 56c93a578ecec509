use Rattle.std.proofs.Common.{◌≡◌, ◌∙◌, ◌++◌, List, ℕ, length, ap, rules}
use Rattle.shape_core.specs.Shaping.{shaped_items, shaped_missing}
use Rattle.shape_core.proofs.FrontLemmas.{front-whole}
use Rattle.shape_core.proofs.ShapingLemmas.{Shaping-grown, Shaping-nothing, some_where_fewer}
use Rattle.shape_core.proofs.word.shape.Goals as goal

pub returns-then-is_empty-clause-shaping : goal.returns-then-is_empty-clause-shaping
returns-then-is_empty-clause-shaping g c =
    let none : length c.args.word.now ≡ 0 = search rules in
    Shaping-nothing _ _ _ _ _ none

pub returns-in-Ok-clause-shaping : goal.returns-in-Ok-clause-shaping
returns-in-Ok-clause-shaping g c =
    let sizes = g.M.Metrics.sizes c.args.metrics.now in
    let steps = g.M.Metrics.steps c.args.metrics.now in
    let word = c.args.word.now in
    Shaping-grown c.args.slot sizes steps word c.args.nodes.now.items c.shape_front.new.nodes.items c.in-Ok.shaped.missing
    (c.in-Ok.ensures.ok ∙ ap (λ (w : List ℕ). c.args.nodes.now.items ++ shaped_items c.args.slot sizes steps w) (front-whole word))
    (c.in-Ok.ensures.number ∙ ap (shaped_missing sizes steps) (front-whole word))

pub returns-in-Err-clause-growth : goal.returns-in-Err-clause-growth
returns-in-Err-clause-growth g c =
    let sizes = g.M.Metrics.sizes c.args.metrics.now in
    let steps = g.M.Metrics.steps c.args.metrics.now in
    some_where_fewer c.args.nodes.now.items c.shape_front.new.nodes.items (shaped_items c.args.slot sizes steps c.args.word.now) _
    (ap (shaped_items c.args.slot sizes steps) (front-whole c.args.word.now)) c.in-Err.ensures.front c.in-Err.ensures.fewer
