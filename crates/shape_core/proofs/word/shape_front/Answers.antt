use Rattle.std.proofs.Common.{◌≡◌, ◌∙◌, ◌++◌, ◌<◌, ◌≤◌, Some, List, get_or, length, ap, sym, arith}
use Rattle.std.specs.Prelude.{slice_get}
use Rattle.std.proofs.lemmas.List.{take_all}
use Rattle.std.proofs.lemmas.Option.{slice_get_within, get_or_from_slice_get}
use Rattle.scaled_core.proofs.Appending.{front_kept}
use Rattle.node_core.specs.declared.tree.Node.{Node}
use Rattle.shape_core.specs.Private.Fronts.{front_of}
use Rattle.shape_core.specs.Shaping.{outcome_at, outcome_next}
use Rattle.shape_core.proofs.FrontLemmas.{ended, front-items, front-missing}
use Rattle.shape_core.proofs.ShapingLemmas.{turn-items, turn-missing, end-items, end-missing, turn-fewer, end-fewer, on_refused}
use Rattle.shape_core.proofs.word.shape_front.Goals as goal

pub loop-following-init : goal.loop-following-init
loop-following-init g c =
    let sizes = g.M.Metrics.sizes c.args.metrics.now in
    let steps = g.M.Metrics.steps c.args.metrics.now in
    record {
      some = omega arith;
      within = omega (arith, c.requires);
      items = ap (λ (xs : List Node). c.args.nodes.now.items ++ xs) (front-items c.args.slot sizes steps c.args.until_space c.args.text.now c.requires);
      number = omega (arith, front-missing sizes steps c.args.until_space c.args.text.now c.requires);
      front = take_all (length c.args.nodes.now.items) c.args.nodes.now.items (omega arith);
      few = omega arith;
      capacity = omega arith;
    }

pub loop-following-preserved : goal.loop-following-preserved
loop-following-preserved g c =
    let sizes = g.M.Metrics.sizes c.args.metrics.now in
    let steps = g.M.Metrics.steps c.args.metrics.now in
    let word = front_of c.args.until_space c.args.text.now in
    let l = c.loop-following in
    let d = c.in-Some.following in
    let at : slice_get word l.index ≡ Some d = sym c.in-Some.ensures in
    let within : l.index < length word = slice_get_within word l.index d at in
    let here : d ≡ get_or word l.index 0 = sym (get_or_from_slice_get word l.index d 0 at) in
    let outcome = c.outcome_before-outcome.ensures ∙ ap (λ x. outcome_at sizes steps l.code (Some x)) here in
    let next = c.next-code.ensures ∙ ap (λ x. outcome_next x c.outcome_before-outcome.result) here in
    record {
      some = omega arith;
      within = omega (arith, within);
      items = turn-items c.args.slot sizes steps l.code word l.index _ _ _ _ _ within l.invariant.items outcome c.in_ok-append.ensures.ok next;
      number = turn-missing sizes steps l.code word l.index _ _ _ _ _ within l.invariant.number outcome c.missing-missing.ensures.value next;
      front = front_kept _ _ _ _ l.invariant.front c.in_ok-append.ensures.ok;
      few = omega (arith, l.invariant.few, c.missing-missing.ensures.missing_bounded);
      capacity = omega (arith, l.invariant.capacity, c.in_ok-append.ensures.capacity);
    }

pub loop-following-smaller : goal.loop-following-smaller
loop-following-smaller g c =
    let word = front_of c.args.until_space c.args.text.now in
    let within : c.loop-following.index < length word = slice_get_within word c.loop-following.index c.in-Some.following (sym c.in-Some.ensures) in
    omega (arith, within)

pub returns-clause-ok : goal.returns-clause-ok
returns-clause-ok g c =
    let sizes = g.M.Metrics.sizes c.args.metrics.now in
    let steps = g.M.Metrics.steps c.args.metrics.now in
    let word = front_of c.args.until_space c.args.text.now in
    let past : length word ≤ c.loop-following.index = ended word c.loop-following.index (sym c.following_at.ensures ∙ c.in_default.is) in
    end-items c.args.slot sizes steps c.loop-following.code word c.loop-following.index _ _ _ _ past c.loop-following.invariant.items c.last_outcome-outcome.ensures c.in_ok-append-2.ensures.ok

pub returns-clause-number : goal.returns-clause-number
returns-clause-number g c =
    let sizes = g.M.Metrics.sizes c.args.metrics.now in
    let steps = g.M.Metrics.steps c.args.metrics.now in
    let word = front_of c.args.until_space c.args.text.now in
    let past : length word ≤ c.loop-following.index = ended word c.loop-following.index (sym c.following_at.ensures ∙ c.in_default.is) in
    end-missing sizes steps c.loop-following.code word c.loop-following.index _ _ _ _ past c.loop-following.invariant.number c.last_outcome-outcome.ensures c.missing.ensures.value

pub returns-clause-length : goal.returns-clause-length
returns-clause-length g c =
    let word = front_of c.args.until_space c.args.text.now in
    let past : length word ≤ c.loop-following.index = ended word c.loop-following.index (sym c.following_at.ensures ∙ c.in_default.is) in
    omega (arith, past, c.loop-following.invariant.within)

pub returns-clause-missing_bounded : goal.returns-clause-missing_bounded
returns-clause-missing_bounded g c =
    omega (arith, c.loop-following.invariant.few, c.loop-following.invariant.within, c.missing.ensures.missing_bounded)

-- Where an item of a character is refused, fewer are appended than the word has.
pub returns-in_err-append-clause-fewer : goal.returns-in_err-append-clause-fewer
returns-in_err-append-clause-fewer g c =
    let sizes = g.M.Metrics.sizes c.args.metrics.now in
    let steps = g.M.Metrics.steps c.args.metrics.now in
    let word = front_of c.args.until_space c.args.text.now in
    let l = c.loop-following in
    let d = c.in-Some.following in
    let at : slice_get word l.index ≡ Some d = sym c.in-Some.ensures in
    let within : l.index < length word = slice_get_within word l.index d at in
    let here : d ≡ get_or word l.index 0 = sym (get_or_from_slice_get word l.index d 0 at) in
    let outcome = c.outcome_before-outcome.ensures ∙ ap (λ x. outcome_at sizes steps l.code (Some x)) here in
    on_refused c.from_residual.result
    (turn-fewer c.args.slot sizes steps l.code word l.index _ _ _ _ _ within l.invariant.items outcome c.in_err-append.ensures.fewer)

pub returns-in_err-append-2-clause-fewer : goal.returns-in_err-append-2-clause-fewer
returns-in_err-append-2-clause-fewer g c =
    let sizes = g.M.Metrics.sizes c.args.metrics.now in
    let steps = g.M.Metrics.steps c.args.metrics.now in
    let word = front_of c.args.until_space c.args.text.now in
    let past : length word ≤ c.loop-following.index = ended word c.loop-following.index (sym c.following_at.ensures ∙ c.in_default.is) in
    on_refused c.from_residual-in_err-append-2.result
    (end-fewer c.args.slot sizes steps c.loop-following.code word c.loop-following.index _ _ _ _ _ past c.loop-following.invariant.items c.last_outcome-outcome.ensures c.in_err-append-2.ensures.fewer)
