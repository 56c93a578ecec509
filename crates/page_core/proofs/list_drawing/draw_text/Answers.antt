use Rattle.std.proofs.Common.{◌≡◌, ◌∙◌, ◌≤◌, sym, take, length}
use Rattle.std.specs.Prelude.{Some}
use Rattle.std.specs.List.{list_all}
use Rattle.scaled_core.specs.Dimensions.{fits}
use Rattle.pack_core.specs.Cursors.{sums_after, place_at}
use Rattle.page_core.specs.Private.Placing.{level_with, point_in, numbers_left, drawn_left}
use Rattle.page_core.specs.Marks.{right_at, down_at}
use Rattle.page_core.proofs.Walked.{level-at, told_so, told_index}
use Rattle.page_core.proofs.list_drawing.draw_text.Goals as goal

pub draw_text_items-requires-clause-at : goal.draw_text_items-requires-clause-at
draw_text_items-requires-clause-at g c =
    let b = c.args.box_node.now in
    let place = place_at b.setting c.args.walk.now.cursor in
    level-at (right_at b.kind c.args.begin.now.h place) (down_at b.kind c.args.begin.now.v place) c.in-Horizontal-Some.at
    (sym c.requires.here ∙ c.in-Horizontal-Some.is-1)

pub returns-in_default-2-clause-over : goal.returns-in_default-2-clause-over
returns-in_default-2-clause-over g c none = c.in_ok-next.ensures.over c.in_default-2.is

pub returns : goal.returns
returns g c =
    let b = c.args.box_node.now in
    let h = c.args.begin.now.h in
    let v = c.args.begin.now.v in
    let xs = c.args.left.items.now in
    let i = c.args.left.from in
    let n = c.in-Some.next in
    let place = c.draw_text_items.new.place in
    record {
      onward = told_index (λ k. i ≤ k) _ n c.in-Some.is c.in_ok-next.ensures.onward;
      within = told_index (λ k. k ≤ length xs) _ n c.in-Some.is c.in_ok-next.ensures.within;
      cursor = told_index (λ k. place.cursor ≡ sums_after b.kind b.setting (take k xs)) _ n c.in-Some.is c.in_ok-next.ensures.cursor;
      here = sym (told_so (point_in b h v (place_at b.setting place.cursor) ≡ Some (level_with place.v place.h)) _ n c.in-Some.is c.in_ok-next.ensures.at);
      over = λ none. absurd (cc);
      left = told_index (λ k. list_all fits (numbers_left b h v xs k) ≡ list_all fits (numbers_left b h v xs i)) _ n c.in-Some.is c.in_ok-next.ensures.left;
      marks = told_index
          (λ k. g.S.MarkSink.drawn_with b.kind c.draw_text_items.new.sink (drawn_left b h v xs k)
          ≡ g.S.MarkSink.drawn_with b.kind c.args.sink.now (drawn_left b h v xs i)) _ n c.in-Some.is c.in_ok-next.ensures.marks;
    }
