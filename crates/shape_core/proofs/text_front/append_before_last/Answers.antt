use Rattle.std.proofs.Common.{◌≡◌, ◌∙◌, ◌<◌, ◌+◌, ◌-◌, ◌++◌, get_or, length, drop, take, vec_capacity, ap, sym, refl, arith, rules}
use Rattle.std.proofs.lemmas.List.{take_all}
use Rattle.shape_core.specs.Texts.{text_items, text_missing}
use Rattle.shape_core.proofs.TextFrontLemmas.{from_before, from_next, kept_before}
use Rattle.shape_core.proofs.text_front.append_before_last.Goals.{then-loop-index-test+else-len-last, else-loop-index-test, then-loop-index-test+then-len-last+then-not-append_next}
use Rattle.shape_core.proofs.text_front.append_before_last.Goals as goal

pub loop-index-init : goal.loop-index-init
loop-index-init g c = record {
  some = omega arith;
  within = omega (arith, c.requires);
  before = refl;
  items = refl;
  number = refl;
  front = take_all (length c.args.items.now.items) c.args.items.now.items (omega arith);
  capacity = refl;
  last = search rules;
}

pub append_next-requires : goal.append_next-requires
append_next-requires g c = search rules

pub loop-index-preserved : goal.loop-index-preserved
loop-index-preserved g c =
    let sizes = g.M.Metrics.sizes c.args.metrics.now in
    let steps = g.M.Metrics.steps c.args.metrics.now in
    let blank = g.M.Metrics.blank c.args.metrics.now in
    let text = c.args.text.now in
    let l = c.loop-index in
    let within : l.index < length text = search rules in
    let before = from_before text l.index l.code l.invariant.some within l.invariant.before in
    let next = from_next text l.index within in
    let yes = c.if-not-append_next.false in
    record {
      some = omega arith;
      within = omega (arith, within);
      before = ap (λ n. get_or text n 0) (omega arith);
      items = ap (λ t. c.append_next.new.items.items ++ text_items c.args.slot sizes steps blank t) next
          ∙ c.append_next.ensures.items yes (drop (l.index + 1) text)
          ∙ ap (λ t. l.items.items ++ text_items c.args.slot sizes steps blank t) (sym before)
          ∙ l.invariant.items;
      number = ap (text_missing sizes steps) next ∙ c.append_next.ensures.number yes (drop (l.index + 1) text)
          ∙ ap (text_missing sizes steps) (sym before) ∙ l.invariant.number;
      front = kept_before c.args.items.now.items l.items.items c.append_next.new.items.items l.invariant.front c.append_next.ensures.front;
      capacity = c.append_next.ensures.capacity ∙ l.invariant.capacity;
      last = l.invariant.last ∙ ap (λ n. n - 1) (sym c.append_next.ensures.capacity);
    }

pub overflow_sub-result : goal.overflow_sub-result
overflow_sub-result g c = omega (arith, c.loop-index.invariant.some)

pub returns-clause-items : goal.returns-clause-items
returns-clause-items g c =
    let text = drop (c.loop-index.index - 1) c.args.text.now in
    let slot = c.args.slot in
    let sizes = g.M.Metrics.sizes c.args.metrics.now in
    let steps = g.M.Metrics.steps c.args.metrics.now in
    let blank = g.M.Metrics.blank c.args.metrics.now in
    let same : c.loop-index-test.items.items ≡ c.loop-index.items.items =
    elim c.loop-index-test.branch [ then-loop-index-test+else-len-last w ↦ ap (λ v. v.items) w.items-is | else-loop-index-test w ↦ ap (λ v. v.items) w.items-is | then-loop-index-test+then-len-last+then-not-append_next w ↦ (ap (λ v. v.items) w.items-is ∙ w.append_next.ensures.kept w.if-not-append_next.true) ] in
    ap (λ xs. xs ++ text_items slot sizes steps blank text) same ∙ c.loop-index.invariant.items

pub returns-clause-number : goal.returns-clause-number
returns-clause-number g c = c.loop-index.invariant.number

pub returns-clause-within : goal.returns-clause-within
returns-clause-within g c = omega (arith, c.loop-index.invariant.some, c.loop-index.invariant.within)

pub returns-clause-front : goal.returns-clause-front
returns-clause-front g c =
    let same : c.loop-index-test.items.items ≡ c.loop-index.items.items =
    elim c.loop-index-test.branch [ then-loop-index-test+else-len-last w ↦ ap (λ v. v.items) w.items-is | else-loop-index-test w ↦ ap (λ v. v.items) w.items-is | then-loop-index-test+then-len-last+then-not-append_next w ↦ (ap (λ v. v.items) w.items-is ∙ w.append_next.ensures.kept w.if-not-append_next.true) ] in
    ap (take (length c.args.items.now.items)) same ∙ c.loop-index.invariant.front

pub returns-clause-capacity : goal.returns-clause-capacity
returns-clause-capacity g c =
    let same : vec_capacity c.loop-index-test.items ≡ vec_capacity c.loop-index.items =
    elim c.loop-index-test.branch [ then-loop-index-test+else-len-last w ↦ ap vec_capacity w.items-is | else-loop-index-test w ↦ ap vec_capacity w.items-is | then-loop-index-test+then-len-last+then-not-append_next w ↦ (ap vec_capacity w.items-is ∙ w.append_next.ensures.capacity) ] in
    same ∙ c.loop-index.invariant.capacity
