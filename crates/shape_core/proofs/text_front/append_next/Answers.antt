use Rattle.std.proofs.Common.{◌∙◌, ◌++◌, ◌∷◌, [], ap, sym, arith}
use Rattle.node_core.specs.declared.tree.Node.TheVariants.{Glue}
use Rattle.shape_core.specs.Shaping.{outcome_items, outcome_missing}
use Rattle.shape_core.proofs.ShapingLemmas.{outcome-alone, outcome-kerned}
use Rattle.shape_core.proofs.TextFrontLemmas.{appended, items-spaces, items-glue, items-last, items-next, missing-spaces, missing-glue, missing-last, missing-next}
use Rattle.shape_core.proofs.text_front.append_next.Goals as goal

pub returns-then-code-eq32-clause-items : goal.returns-then-code-eq32-clause-items
returns-then-code-eq32-clause-items g c = λ yes text.
    ap (λ xs. c.args.items.now.items ++ xs)
    (sym (items-spaces c.args.slot (g.M.Metrics.sizes c.args.metrics.now) (g.M.Metrics.steps c.args.metrics.now) (g.M.Metrics.blank c.args.metrics.now) c.args.code c.args.following text c.if-code-eq32.true c.if-following-eq32.true))

pub returns-then-code-eq32-clause-number : goal.returns-then-code-eq32-clause-number
returns-then-code-eq32-clause-number g c = λ yes text.
    sym (missing-spaces (g.M.Metrics.sizes c.args.metrics.now) (g.M.Metrics.steps c.args.metrics.now) c.args.code c.args.following text c.if-code-eq32.true c.if-following-eq32.true)

pub returns-then-following-eq32-clause-items : goal.returns-then-following-eq32-clause-items
returns-then-following-eq32-clause-items g c = λ yes text.
    let sizes = g.M.Metrics.sizes c.args.metrics.now in
    let steps = g.M.Metrics.steps c.args.metrics.now in
    appended _ _ _ _ _ (c.append_outcome.ensures.items yes ∙ ap (λ o. c.args.items.now.items ++ outcome_items c.args.slot c.args.code o) c.last_outcome.ensures)
    (items-last c.args.slot sizes steps (g.M.Metrics.blank c.args.metrics.now) c.args.code c.args.following text c.if-code-eq32.false c.if-following-eq32.true)

pub returns-then-following-eq32-clause-number : goal.returns-then-following-eq32-clause-number
returns-then-following-eq32-clause-number g c = λ yes text.
    let sizes = g.M.Metrics.sizes c.args.metrics.now in
    let steps = g.M.Metrics.steps c.args.metrics.now in
    omega (arith, missing-last sizes steps c.args.code c.args.following text c.if-code-eq32.false c.if-following-eq32.true, c.append_outcome.ensures.none_missing yes, ap outcome_missing c.last_outcome.ensures)

pub returns-then-code-eq32-2-clause-items : goal.returns-then-code-eq32-2-clause-items
returns-then-code-eq32-2-clause-items g c = λ yes text.
    let sizes = g.M.Metrics.sizes c.args.metrics.now in
    let steps = g.M.Metrics.steps c.args.metrics.now in
    appended _ _ _ _ _ (c.push_reserved.ensures.items ∙ ap (λ glue. c.args.items.now.items ++ Glue glue ∷ []) c.space.ensures)
    (items-glue c.args.slot sizes steps (g.M.Metrics.blank c.args.metrics.now) c.args.code c.args.following text c.if-code-eq32-2.true c.if-following-eq32.false)

pub returns-then-code-eq32-2-clause-number : goal.returns-then-code-eq32-2-clause-number
returns-then-code-eq32-2-clause-number g c = λ yes text.
    sym (missing-glue (g.M.Metrics.sizes c.args.metrics.now) (g.M.Metrics.steps c.args.metrics.now) c.args.code c.args.following text c.if-code-eq32-2.true c.if-following-eq32.false)

pub returns-in-Some-clause-items : goal.returns-in-Some-clause-items
returns-in-Some-clause-items g c = λ yes text.
    let sizes = g.M.Metrics.sizes c.args.metrics.now in
    let steps = g.M.Metrics.steps c.args.metrics.now in
    let alone = outcome-alone sizes steps c.args.code c.args.following c.in-Some.size c.in-Some.ensures.0 c.in-Some.ensures.1 in
    appended _ _ _ _ _ (c.append_outcome-in-Some.ensures.items yes)
    (items-next c.args.slot sizes steps (g.M.Metrics.blank c.args.metrics.now) c.args.code c.args.following text _ c.if-code-eq32-2.false c.if-following-eq32.false alone (c.append_outcome-in-Some.ensures.next yes c.args.following))

pub returns-in-Some-clause-number : goal.returns-in-Some-clause-number
returns-in-Some-clause-number g c = λ yes text.
    let sizes = g.M.Metrics.sizes c.args.metrics.now in
    let steps = g.M.Metrics.steps c.args.metrics.now in
    let alone = outcome-alone sizes steps c.args.code c.args.following c.in-Some.size c.in-Some.ensures.0 c.in-Some.ensures.1 in
    omega (arith, missing-next sizes steps c.args.code c.args.following text _ c.if-code-eq32-2.false c.if-following-eq32.false alone (c.append_outcome-in-Some.ensures.next yes c.args.following), c.append_outcome-in-Some.ensures.none_missing yes)

pub returns-clause-items : goal.returns-clause-items
returns-clause-items g c = λ yes text.
    let sizes = g.M.Metrics.sizes c.args.metrics.now in
    let steps = g.M.Metrics.steps c.args.metrics.now in
    let kerned = outcome-kerned sizes steps c.args.code c.args.following c.in-Some-glyph.size c.in-Some-kern_before.width (sym c.in-Some-glyph.ensures) c.in-Some-kern_before.ensures in
    appended _ _ _ _ _ (c.append_outcome-2.ensures.items yes)
    (items-next c.args.slot sizes steps (g.M.Metrics.blank c.args.metrics.now) c.args.code c.args.following text _ c.if-code-eq32-2.false c.if-following-eq32.false kerned (c.append_outcome-2.ensures.next yes c.args.following))

pub returns-clause-number : goal.returns-clause-number
returns-clause-number g c = λ yes text.
    let sizes = g.M.Metrics.sizes c.args.metrics.now in
    let steps = g.M.Metrics.steps c.args.metrics.now in
    let kerned = outcome-kerned sizes steps c.args.code c.args.following c.in-Some-glyph.size c.in-Some-kern_before.width (sym c.in-Some-glyph.ensures) c.in-Some-kern_before.ensures in
    omega (arith, missing-next sizes steps c.args.code c.args.following text _ c.if-code-eq32-2.false c.if-following-eq32.false kerned (c.append_outcome-2.ensures.next yes c.args.following), c.append_outcome-2.ensures.none_missing yes)
