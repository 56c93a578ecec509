use Rattle.std.proofs.Common.{◌∙◌, ◌<◌, drop, length, ap, sym, subst, arith}
use Rattle.std.specs.Prelude.{List}
use Rattle.std.proofs.lemmas.List.{take_rest}
use Rattle.node_core.specs.declared.tree.Node.{Node}
use Rattle.pack_core.specs.declared.pack.Target.TheVariants.{Natural}
use Rattle.pack_core.specs.Boxes.{vbox_shell}
use Rattle.vert_core.specs.Split.{no_limit}
use Rattle.vert_core.specs.Tails.{MeasureEnds}
use Rattle.vert_core.proofs.Ends.{ends-from}
use Rattle.vert_core.proofs.Rests.{first-after, planned-left, rest-fits, some-left, left-shell, not_ok}
use Rattle.vert_core.proofs.plan.plan_rest.Goals as goal

pub top_of-requires-clause-ends : goal.top_of-requires-clause-ends
top_of-requires-clause-ends c =
    let first = c.first_kept-first.ensures in
    let below : c.first_kept-first.result < length c.args.nodes.now = omega (arith, first.place_bounded, c.if-first-nodes.false) in
    let later = first-after c.args.nodes.now c.args.place c.first_kept-first.result c.requires.dropped (first.kept below) first.after in
    subst (MeasureEnds c.args.entries.now) (sym (take_rest c.args.nodes.now c.rest_start-start.result))
    (ends-from c.args.entries.now c.rest_start-start.result c.args.nodes.now (omega (arith, later, c.rest_start-start.ensures.after)) c.requires.ends)

pub returns-in_err-top-clause-fits : goal.returns-in_err-top-clause-fits
returns-in_err-top-clause-fits c =
    let first = c.first_kept-first.ensures in
    let numbers = rest-fits c.args.params.now (drop c.args.place c.args.nodes.now) (drop c.rest_start-start.result c.args.nodes.now) (c.rest_start-start.ensures.value ∙ first.solid) in
    not_ok c.from_residual.result c.from_residual.ensures.0 ∙ (rw (take_rest c.args.nodes.now c.rest_start-start.result) at c.in_err-top.ensures.fits) ∙ numbers

pub returns-clause-ok : goal.returns-clause-ok
returns-clause-ok c =
    let first = c.first_kept-first.ensures in
    let start = c.rest_start-start.ensures in
    planned-left c.args.params.now c.args.nodes.now c.args.place c.first_kept-first.result c.rest_start-start.result c.in_ok-top.top.glue c.in_ok-top.top.shell
    start.after start.place_bounded first.specials first.solid start.value (rw (take_rest c.args.nodes.now c.rest_start-start.result) at c.in_ok-top.ensures.glue)

pub returns-clause-inside : goal.returns-clause-inside
returns-clause-inside c =
    let first = c.first_kept-first.ensures in
    let start = c.rest_start-start.ensures in
    let left = returns-clause-ok c in
    let below : c.first_kept-first.result < length c.args.nodes.now = omega (arith, first.place_bounded, c.if-first-nodes.false) in
    let kept = first.kept below in
    record {
      free = omega (arith, first-after c.args.nodes.now c.args.place c.first_kept-first.result c.requires.dropped kept first.after);
      ordered = start.after;
      within = start.place_bounded;
      some =
          omega (
            arith,
            ap (λ (xs : List Node). length xs) left,
            some-left c.args.params.now c.args.nodes.now c.args.place c.first_kept-first.result first.specials first.solid below kept,
          );
    }

pub returns-clause-fits : goal.returns-clause-fits
returns-clause-fits c =
    let first = c.first_kept-first.ensures in
    let numbers = rest-fits c.args.params.now (drop c.args.place c.args.nodes.now) (drop c.rest_start-start.result c.args.nodes.now) (c.rest_start-start.ensures.value ∙ first.solid) in
    (rw (take_rest c.args.nodes.now c.rest_start-start.result) at c.in_ok-top.ensures.fits) ∙ numbers

pub returns-clause-shell : goal.returns-clause-shell
returns-clause-shell c =
    let solid = c.rest_start-start.ensures.value ∙ c.first_kept-first.ensures.solid in
    (rw (take_rest c.args.nodes.now c.rest_start-start.result) at c.in_ok-top.ensures.shell)
    ∙ left-shell c.args.params.now (drop c.args.place c.args.nodes.now) (drop c.rest_start-start.result c.args.nodes.now) solid
    ∙ ap (λ (xs : List Node). vbox_shell Natural no_limit xs) (sym (returns-clause-ok c))
