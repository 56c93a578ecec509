use Rattle.std.proofs.Common.{◌≡◌, ◌∙◌, ◌+◌, length, take, ap, arith, sym}
use Rattle.std.specs.Prelude.{List}
use Rattle.std.specs.List.{slice_get}
use Rattle.std.proofs.lemmas.List.{length-take, take_all}
use Rattle.vert_core.specs.Places.{is_some_before_break}
use Rattle.vert_core.proofs.Openings.{open-end}
use Rattle.vert_core.specs.declared.trials.Trial.{Trial}
use Rattle.vert_core.specs.Split.{up_to_last, last_cheapest}
use Rattle.node_core.specs.declared.tree.Kind.TheVariants.{Vertical}
use Rattle.pack_core.specs.ListTotals.{ListTotals, with_item, totals_of}
use Rattle.pack_core.proofs.Passing.{totals-more, totals-passed}
use Rattle.vert_core.proofs.Search.{trials-all, trial-end, end-last, chosen-none, chosen-more, chosen-last, kept-open}
use Rattle.vert_core.proofs.trials.split_place.Goals.{in-Some+else-is_last, in_default}
use Rattle.vert_core.proofs.trials.split_place.Goals as goal

pub loop-place-init : goal.loop-place-init
loop-place-init c = record {
  passed = c.new-totals.ensures;
  chosen = ap (λ (ts : List Trial). last_cheapest (up_to_last ts)) (trials-all c.args.params.now c.args.height c.args.nodes.now);
  kept = tt;
}

pub returns-then-is_last-clause-value : goal.returns-then-is_last-clause-value
returns-then-is_last-clause-value c =
    ap (λ (t : Trial). t.place) c.cheaper-kept.ensures
    ∙ chosen-last c.args.params.now c.args.height c.args.nodes.now c.loop-place.best c.loop-place.place c.in-Some.trial (omega arith)
    (sym c.trial_at.ensures.value ∙ c.in-Some.is) (sym c.is_last.ensures ∙ c.if-is_last.true) c.loop-place.invariant.chosen

pub front_badness-requires : goal.front_badness-requires
front_badness-requires c =
    let passed = ap (λ (t : ListTotals). t.passed) c.loop-place.invariant.passed ∙ totals-passed Vertical (take c.loop-place.place c.args.nodes.now) in
    omega (arith, c.requires, length-take c.loop-place.place c.args.nodes.now)

pub pass-requires : goal.pass-requires
pass-requires c =
    let passed = ap (λ (t : ListTotals). t.passed) c.loop-place.invariant.passed ∙ totals-passed Vertical (take c.loop-place.place c.args.nodes.now) in
    omega (arith, length-take c.loop-place.place c.args.nodes.now)

pub loop-place-preserved : goal.loop-place-preserved
loop-place-preserved c =
    let passed : c.pass.new.self ≡ totals_of Vertical (take (c.loop-place.place + 1) c.args.nodes.now) =
    c.pass.ensures.value ∙ ap (λ (t : ListTotals). with_item t c.index-nodes-place.result) c.loop-place.invariant.passed
    ∙ totals-more Vertical c.args.nodes.now c.loop-place.place c.index-nodes-place.result c.loop-place-test.true c.index-nodes-place.is in
    record {
      passed = passed;
      chosen =
          elim c.match-trial_at.branch [
            | in-Some+else-is_last w ↦
                rw (w.best-is, w.cheaper-kept.ensures)
                (chosen-more c.args.params.now c.args.height c.args.nodes.now c.loop-place.best c.loop-place.place w.in-Some.trial (omega arith)
                (sym c.trial_at.ensures.value ∙ w.in-Some.is) (sym w.is_last.ensures ∙ w.if-is_last.false) c.loop-place.invariant.chosen)
            | in_default w ↦
                rw w.best-is
                (chosen-none c.args.params.now c.args.height c.args.nodes.now c.loop-place.best c.loop-place.place (omega arith)
                (sym c.trial_at.ensures.value ∙ w.in_default.is) c.loop-place.invariant.chosen)
          ];
      kept =
          elim c.match-trial_at.branch [
            | in-Some+else-is_last w ↦
                rw (w.best-is, w.cheaper-kept.ensures)
                (kept-open c.args.nodes.now c.loop-place.best w.in-Some.trial c.loop-place.invariant.kept (rw w.in-Some.is at c.trial_at.ensures.open))
            | in_default w ↦ rw w.best-is c.loop-place.invariant.kept
          ];
    }

pub returns-clause-value : goal.returns-clause-value
returns-clause-value c =
    let end : c.loop-place.place ≡ length c.args.nodes.now = omega arith in
    let all : take c.loop-place.place c.args.nodes.now ≡ c.args.nodes.now = take_all c.loop-place.place c.args.nodes.now c.loop-place-test.false in
    let bad = c.front_badness.ensures c.args.nodes.now (rw all at c.loop-place.invariant.passed) in
    ap (λ (t : Trial). t.place) c.cheaper.ensures
    ∙ chosen-last c.args.params.now c.args.height c.args.nodes.now c.loop-place.best (length c.args.nodes.now) _ (omega arith)
    (trial-end c.args.params.now c.args.height c.args.nodes.now c.front_badness.result bad)
    (end-last (length c.args.nodes.now) c.front_badness.result) (rw end at c.loop-place.invariant.chosen)

pub returns-clause-dropped : goal.returns-clause-dropped
returns-clause-dropped c =
    let end = kept-open c.args.nodes.now c.loop-place.best _ c.loop-place.invariant.kept (open-end c.args.nodes.now) in
    ap (λ (t : Trial). is_some_before_break (slice_get c.args.nodes.now t.place)) c.cheaper.ensures ∙ end.dropped
