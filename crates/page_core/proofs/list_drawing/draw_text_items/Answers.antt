use Rattle.std.proofs.Common.{◌≡◌, ◌∙◌, ◌≤◌, sym, take, length, arith}
use Rattle.std.specs.Prelude.{Some}
use Rattle.std.specs.List.{list_all}
use Rattle.scaled_core.specs.Dimensions.{fits}
use Rattle.pack_core.specs.Cursors.{sums_after, place_at}
use Rattle.page_core.specs.Private.Placing.{level_with, point_in, numbers_left, drawn_left}
use Rattle.page_core.proofs.Walked.{told_so, told_index}
use Rattle.page_core.proofs.list_drawing.draw_text_items.Goals as goal

pub returns-in_default-clause-over : goal.returns-in_default-clause-over
returns-in_default-clause-over g c none = sym c.loop-next.invariant.left ∙ c.in_ok-after.ensures.over c.in_default.is

pub loop-next-preserved : goal.loop-next-preserved
loop-next-preserved g c =
    let b = c.args.box_node.now in
    let h = c.args.begin.now.h in
    let v = c.args.begin.now.v in
    let xs = c.args.left.items.now in
    let next = c.loop-next.next in
    let n = c.in-Some.after in
    let place = c.draw_text_item.new.place in
    let onward : next ≤ n = told_index (λ i. next ≤ i) _ n c.in-Some.is c.in_ok-after.ensures.onward in
    record {
      onward = omega (arith, onward, c.loop-next.invariant.onward);
      within = told_index (λ i. i ≤ length xs) _ n c.in-Some.is c.in_ok-after.ensures.within;
      cursor = told_index (λ i. place.cursor ≡ sums_after b.kind b.setting (take i xs)) _ n c.in-Some.is c.in_ok-after.ensures.cursor;
      at = told_so (point_in b h v (place_at b.setting place.cursor) ≡ Some (level_with place.v place.h)) _ n c.in-Some.is c.in_ok-after.ensures.at;
      left = told_index (λ i. list_all fits (numbers_left b h v xs i) ≡ list_all fits (numbers_left b h v xs next)) _ n c.in-Some.is c.in_ok-after.ensures.left
          ∙ c.loop-next.invariant.left;
      marks = told_index
          (λ i. g.S.MarkSink.drawn_with b.kind c.draw_text_item.new.sink (drawn_left b h v xs i)
          ≡ g.S.MarkSink.drawn_with b.kind c.loop-next.sink (drawn_left b h v xs next)) _ n c.in-Some.is c.in_ok-after.ensures.marks
          ∙ c.loop-next.invariant.marks;
    }

pub loop-next-smaller : goal.loop-next-smaller
loop-next-smaller g c =
    let next = c.loop-next.next in
    let n = c.in-Some.after in
    let onward : next ≤ n = told_index (λ i. next ≤ i) _ n c.in-Some.is c.in_ok-after.ensures.onward in
    let within : n ≤ length c.args.left.items.now = told_index (λ i. i ≤ length c.args.left.items.now) _ n c.in-Some.is c.in_ok-after.ensures.within in
    omega (arith, onward, within)

pub returns-then-after-next : goal.returns-then-after-next
returns-then-after-next g c =
    let b = c.args.box_node.now in
    let h = c.args.begin.now.h in
    let v = c.args.begin.now.v in
    let xs = c.args.left.items.now in
    let next = c.loop-next.next in
    let n = c.in-Some.after in
    let place = c.draw_text_item.new.place in
    let onward : next ≤ n = told_index (λ i. next ≤ i) _ n c.in-Some.is c.in_ok-after.ensures.onward in
    record {
      onward = omega (arith, onward, c.loop-next.invariant.onward);
      within = told_index (λ i. i ≤ length xs) _ n c.in-Some.is c.in_ok-after.ensures.within;
      cursor = told_index (λ i. place.cursor ≡ sums_after b.kind b.setting (take i xs)) _ n c.in-Some.is c.in_ok-after.ensures.cursor;
      at = told_so (point_in b h v (place_at b.setting place.cursor) ≡ Some (level_with place.v place.h)) _ n c.in-Some.is c.in_ok-after.ensures.at;
      over = λ none. absurd (cc);
      left = told_index (λ i. list_all fits (numbers_left b h v xs i) ≡ list_all fits (numbers_left b h v xs next)) _ n c.in-Some.is c.in_ok-after.ensures.left
          ∙ c.loop-next.invariant.left;
      marks = told_index
          (λ i. g.S.MarkSink.drawn_with b.kind c.draw_text_item.new.sink (drawn_left b h v xs i)
          ≡ g.S.MarkSink.drawn_with b.kind c.loop-next.sink (drawn_left b h v xs next)) _ n c.in-Some.is c.in_ok-after.ensures.marks
          ∙ c.loop-next.invariant.marks;
    }
