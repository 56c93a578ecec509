use Rattle.std.proofs.Common.{◌∙◌, ◌++◌, ◌∷◌, [], ap, sym}
use Rattle.node_core.specs.declared.tree.Node.TheVariants.{Glue}
use Rattle.shape_core.specs.Shaping.{outcome_items, outcome_missing}
use Rattle.shape_core.proofs.TextFrontLemmas.{items-alone, items-glue_alone, missing-alone, missing-glue_alone}
use Rattle.shape_core.proofs.text_front.append_last.Goals as goal

pub returns-then-code-eq32-clause-items : goal.returns-then-code-eq32-clause-items
returns-then-code-eq32-clause-items g c = λ yes.
    c.push_reserved.ensures.items ∙ ap (λ glue. c.args.items.now.items ++ Glue glue ∷ []) c.space.ensures
    ∙ ap (λ xs. c.args.items.now.items ++ xs) (sym (items-glue_alone c.args.slot (g.M.Metrics.sizes c.args.metrics.now) (g.M.Metrics.steps c.args.metrics.now) (g.M.Metrics.blank c.args.metrics.now) c.args.code c.if-code-eq32.true))

pub returns-then-code-eq32-clause-number : goal.returns-then-code-eq32-clause-number
returns-then-code-eq32-clause-number g c = λ yes.
    missing-glue_alone c.args.slot (g.M.Metrics.sizes c.args.metrics.now) (g.M.Metrics.steps c.args.metrics.now) (g.M.Metrics.blank c.args.metrics.now) c.args.code c.if-code-eq32.true

pub returns-clause-items : goal.returns-clause-items
returns-clause-items g c = λ yes.
    c.append_outcome.ensures.items yes ∙ ap (λ o. c.args.items.now.items ++ outcome_items c.args.slot c.args.code o) c.last_outcome.ensures
    ∙ ap (λ xs. c.args.items.now.items ++ xs) (sym (items-alone c.args.slot (g.M.Metrics.sizes c.args.metrics.now) (g.M.Metrics.steps c.args.metrics.now) (g.M.Metrics.blank c.args.metrics.now) c.args.code c.if-code-eq32.false))

pub returns-clause-number : goal.returns-clause-number
returns-clause-number g c = λ yes.
    missing-alone c.args.slot (g.M.Metrics.sizes c.args.metrics.now) (g.M.Metrics.steps c.args.metrics.now) (g.M.Metrics.blank c.args.metrics.now) c.args.code c.if-code-eq32.false
    ∙ sym (ap outcome_missing c.last_outcome.ensures) ∙ c.append_outcome.ensures.none_missing yes
