use Rattle.std.proofs.Common.{◌≡◌, ◌∙◌, ◌<◌, ◌≤◌, ◌+◌, ◌++◌, length, take, ap, sym, refl, rules, arith}
use Rattle.scaled_core.proofs.Appending.{front_kept}
use Rattle.shape_core.specs.Texts.{text_items, text_missing}
use Rattle.shape_core.specs.Private.Texts.{part_length}
use Rattle.shape_core.proofs.TextFrontLemmas.{kept_before}
use Rattle.shape_core.proofs.ShapingLemmas.{on_refused}
use Rattle.shape_core.proofs.TextLemmas.{part_length-some, part_length-within, text_items-end, text_items-fewer, text_items-part, text_missing-none, text_missing-part}
use Rattle.shape_core.proofs.text.shape_parts.Goals as goal

pub split_at-requires : goal.split_at-requires
split_at-requires g c = omega (arith, c.append_text_front-front.ensures.within)

pub shape_part-requires : goal.shape_part-requires
shape_part-requires g c = search rules

pub split_at-requires-in-loop-text : goal.split_at-requires-in-loop-text
split_at-requires-in-loop-text g c = omega (arith, c.in_ok-part.ensures.length, part_length-within c.split_at.result.1.now)

pub overflow_add-characters : goal.overflow_add-characters
overflow_add-characters g c =
    let small : c.loop-text.characters + c.in_ok-part.part.missing ≤ length c.args.text.now =
    omega (arith, c.in_ok-part.ensures.missing_bounded, c.in_ok-part.ensures.length, part_length-within c.split_at.result.1.now, c.append_text_front-front.ensures.within, c.split_at.ensures.back_len, c.loop-text.invariant.3) in
    search rules

pub loop-text-smaller : goal.loop-text-smaller
loop-text-smaller g c =
    let some : 0 < length c.split_at.result.1.now = search rules in
    omega (arith, c.append_text_front-front.ensures.within, c.split_at.ensures.back_len, c.split_at-in-loop-text.ensures.back_len, c.in_ok-part.ensures.length, part_length-some c.split_at.result.1.now some)

pub loop-text-preserved : goal.loop-text-preserved
loop-text-preserved g c =
    let sizes = g.M.Metrics.sizes c.args.metrics.now in
    let steps = g.M.Metrics.steps c.args.metrics.now in
    let blank = g.M.Metrics.blank c.args.metrics.now in
    let rest = c.split_at.result.1.now in
    let held = c.append_text_front-front.new.nodes.items in
    let some : 0 < length rest = search rules in
    let items = c.loop-text.invariant.0 ∙ sym c.append_text_front-front.ensures.items
    ∙ ap (λ t. held ++ text_items c.args.slot sizes steps blank t) (sym c.split_at.ensures.back) in
    let number = c.loop-text.invariant.1
    ∙ ap (λ n. c.loop-text.characters + n) (sym c.append_text_front-front.ensures.number ∙ ap (text_missing sizes steps) (sym c.split_at.ensures.back)) in
    let front = kept_before c.args.nodes.now.items c.loop-text.nodes.items held c.loop-text.invariant.2 c.append_text_front-front.ensures.front in
    let long = c.in_ok-part.ensures.length in
    let part : take (part_length rest) rest ≡ take c.in_ok-part.part.length rest = ap (λ n. take n rest) (sym long) in (
      text_items-part _ _ _ _ rest (take (part_length rest) rest) _ _ _ _ _ some long part c.split_at-in-loop-text.ensures.back c.in_ok-part.ensures.ok items,
      text_missing-part _ _ rest (take (part_length rest) rest) _ _ _ _ _ some long part c.split_at-in-loop-text.ensures.back c.in_ok-part.ensures.number number,
      front_kept _ _ _ _ front c.in_ok-part.ensures.ok,
      omega (arith, c.in_ok-part.ensures.missing_bounded, c.append_text_front-front.ensures.within, c.split_at.ensures.back_len, c.split_at-in-loop-text.ensures.back_len, c.loop-text.invariant.3),
      omega (arith, c.loop-text.invariant.4, c.append_text_front-front.ensures.capacity, c.in_ok-part.ensures.capacity),
    )

pub returns-after-loop-text-clause-ok : goal.returns-after-loop-text-clause-ok
returns-after-loop-text-clause-ok g c =
    let none : length c.loop-text.text.now ≡ 0 = search rules in
    text_items-end _ _ _ _ c.loop-text.text.now _ _ none c.loop-text.invariant.0

pub returns-after-loop-text-clause-number : goal.returns-after-loop-text-clause-number
returns-after-loop-text-clause-number g c =
    let none : length c.loop-text.text.now ≡ 0 = search rules in
    omega (arith, c.loop-text.invariant.1, text_missing-none (g.M.Metrics.sizes c.args.metrics.now) (g.M.Metrics.steps c.args.metrics.now) c.loop-text.text.now none)

pub returns-then-is_empty-clause-ok : goal.returns-then-is_empty-clause-ok
returns-then-is_empty-clause-ok g c =
    let sizes = g.M.Metrics.sizes c.args.metrics.now in
    let steps = g.M.Metrics.steps c.args.metrics.now in
    let blank = g.M.Metrics.blank c.args.metrics.now in
    let rest = c.split_at.result.1.now in
    let held = c.append_text_front-front.new.nodes.items in
    let none : length rest ≡ 0 = search rules in
    let items = c.loop-text.invariant.0 ∙ sym c.append_text_front-front.ensures.items
    ∙ ap (λ t. held ++ text_items c.args.slot sizes steps blank t) (sym c.split_at.ensures.back) in
    text_items-end _ _ _ _ rest _ _ none items

pub returns-then-is_empty-clause-number : goal.returns-then-is_empty-clause-number
returns-then-is_empty-clause-number g c =
    let sizes = g.M.Metrics.sizes c.args.metrics.now in
    let steps = g.M.Metrics.steps c.args.metrics.now in
    let rest = c.split_at.result.1.now in
    let none : length rest ≡ 0 = search rules in
    let number = c.loop-text.invariant.1
    ∙ ap (λ n. c.loop-text.characters + n) (sym c.append_text_front-front.ensures.number ∙ ap (text_missing sizes steps) (sym c.split_at.ensures.back)) in
    omega (arith, number, text_missing-none sizes steps rest none)

-- Where an item of a part is refused, fewer are appended than the text has.
pub returns-in_err-part-clause-fewer : goal.returns-in_err-part-clause-fewer
returns-in_err-part-clause-fewer g c =
    let sizes = g.M.Metrics.sizes c.args.metrics.now in
    let steps = g.M.Metrics.steps c.args.metrics.now in
    let blank = g.M.Metrics.blank c.args.metrics.now in
    let rest = c.split_at.result.1.now in
    let held = c.append_text_front-front.new.nodes.items in
    let some : 0 < length rest = search rules in
    let items = c.loop-text.invariant.0 ∙ sym c.append_text_front-front.ensures.items
    ∙ ap (λ t. held ++ text_items c.args.slot sizes steps blank t) (sym c.split_at.ensures.back) in
    on_refused c.from_residual.result
    (text_items-fewer c.args.slot sizes steps blank rest (take (part_length rest) rest) (part_length rest) _ _ _ _ some refl refl items c.in_err-part.ensures.fewer)
