-- One more line is appended, or none is left.
use Rattle.std.proofs.Common.{◌≡◌, [], ◌++◌, List, ℕ, length, vec_items, arith, ap, inl, inr, refl, rules, sym, ◌∙◌}
use Rattle.dvi_read.specs.ItemsLeft.{lines_left}
use Rattle.dvi_read.proofs.LineLemmas.{below, not_above, nothing_filled, the_other, whole_next}
use Rattle.dvi_read.proofs.listings.lines.Lines.fill.Goals as goal

pub loop-self-preserved : goal.loop-self-preserved
loop-self-preserved c =
    let next = c.if-next.ensures in
    let part = c.next.new.part in
    let text = c.loop-self.text.items in
    let held = c.loop-self.invariant in
    let appended : c.extend_from_slice.new.self.items ≡ text ++ part = c.in-Ok.ensures.items ∙ ap (λ (bs : List ℕ). text ++ bs) c.as_bytes.ensures.value in
    let size : length c.as_bytes.result.now ≡ length part = ap (λ (bs : List ℕ). length bs) c.as_bytes.ensures.value in
    let some = next.filled refl in
    let grown = held.grown in
    let (all, lines) = held.some in
    let (left, split, now) = next.next all lines refl in
    let fewer = below (lines_left c.next.new.self) (lines_left c.loop-self.self) (lines_left c.args.self.now) (next.fewer refl) held.less in
    record {
      some = (left, now);
      whole = λ lines first.
          (let (rest, same, remaining) = held.whole lines first in
          let (later, split, now) = next.next rest remaining refl in
          (later, whole_next c.args.text.now.items text c.extend_from_slice.new.self.items part rest later lines appended split same, now));
      grown = omega (arith, grown, c.in-Ok.ensures.len);
      capacity = omega (arith, held.capacity, c.in-Ok.ensures.capacity);
      most = held.most;
      within = omega (arith, held.within, c.in-Ok.ensures.len, c.as_bytes.ensures.length_bounded);
      less = not_above _ _ fewer;
      same = next.same ∙ held.same;
      begun = inr (omega (arith, grown, c.in-Ok.ensures.len, size, some), fewer);
    }

pub returns-else-next-clause-all : goal.returns-else-next-clause-all
returns-else-next-clause-all c = λ lines first.
    let (rest, same, remaining) = c.loop-self.invariant.whole lines first in
    let (none, now) = c.if-next.ensures.none rest remaining refl in ([], ap (λ (bs : List ℕ). c.loop-self.text.items ++ bs) (sym none) ∙ same, now)

pub returns-else-next-clause-filled : goal.returns-else-next-clause-filled
returns-else-next-clause-filled c = λ lines first space some.
    let (rest, same, remaining) = c.loop-self.invariant.whole lines first in
    let (none, now) = c.if-next.ensures.none rest remaining refl in
    let whole = ap (λ (bs : List ℕ). c.loop-self.text.items ++ bs) (sym none) ∙ same in
    (the_other c.loop-self.invariant.begun
    (λ text_is. nothing_filled c.args.text.now.items lines (ap (λ v. vec_items v ++ []) (sym text_is) ∙ whole) some)).0

pub returns-else-next-clause-same : goal.returns-else-next-clause-same
returns-else-next-clause-same c = c.if-next.ensures.same ∙ c.loop-self.invariant.same

pub loop-self-init : goal.loop-self-init
loop-self-init c =
    record {
      some = c.requires;
      whole = λ lines first. (lines, refl, first);
      grown = omega arith;
      capacity = omega arith;
      most = search rules;
      within = search rules;
      less = omega arith;
      same = refl;
      begun = inl refl;
    }
