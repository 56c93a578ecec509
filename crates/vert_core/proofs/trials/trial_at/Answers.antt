use Rattle.std.proofs.Common.{◌∙◌, take, ap, sym, arith}
use Rattle.std.proofs.lemmas.List.{take_rest, length-take}
use Rattle.node_core.specs.declared.tree.Kind.TheVariants.{Vertical}
use Rattle.pack_core.specs.ListTotals.{ListTotals}
use Rattle.pack_core.proofs.Passing.{totals-passed}
use Rattle.vert_core.proofs.Openings.{open-at}
use Rattle.vert_core.proofs.trials.trial_at.Goals as goal

pub front_badness-requires : goal.front_badness-requires
front_badness-requires c =
    let passed = ap (λ (t : ListTotals). t.passed) c.requires.passed ∙ totals-passed Vertical (take c.args.place c.args.nodes.now) in
    omega (arith, passed, c.requires.list_bounded, length-take c.args.place c.args.nodes.now)

pub returns-in-Some-clause-open : goal.returns-in-Some-clause-open
returns-in-Some-clause-open c =
    open-at c.args.nodes.now c.args.place c.in-Some.penalty c.requires.place_bounded
    (rw (take_rest c.args.nodes.now c.args.place) at (sym c.place_penalty.ensures ∙ c.in-Some.is))
