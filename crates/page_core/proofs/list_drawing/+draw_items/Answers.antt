use Rattle.std.proofs.Common.{◌≡◌, ◌∙◌, refl, sym, ap, subst, take, length, [], ◌+◌, ◌<◌, arith}
use Rattle.std.specs.List.{list_all}
use Rattle.std.proofs.lemmas.List.{drop_all}
use Rattle.node_core.specs.Items.{items_depth}
use Rattle.node_core.specs.Nodes.{items_of, nodes_of}
use Rattle.node_core.specs.declared.tree.Node.{Node}
use Rattle.node_core.specs.declared.tree.Node.TheVariants as nodes
use Rattle.node_core.specs.declared.tree.BoxNode.{BoxNode}
use Rattle.node_core.proofs.NodeLemmas.{items_of-nodes_of}
use Rattle.scaled_core.specs.Dimensions.{fits}
use Rattle.pack_core.specs.Cursors.{sums_after, one_more, place_at}
use Rattle.pack_core.proofs.Walks.{reached-more}
use Rattle.std.specs.Prelude.{ℤ, List, Some, slice_get, true, false, is_some, ◌==◌}
use Rattle.page_core.specs.Marks.{right_at, down_at, item_h, item_v, list_v, numbers_after}
use Rattle.page_core.specs.DrawnPages.{DrawnPage, blank, drawn_after}
use Rattle.page_core.specs.Placing.{reference_h, reference_v}
use Rattle.page_core.specs.Private.Placing.{marked_at, point_in, numbers_left, drawn_left}
use Rattle.page_core.specs.declared.placing.Point.{Point}
use Rattle.page_core.proofs.Places.{inside, numbers_inside, fits_more, drawn_more, item_fits, item_marks, inner_begin}
use Rattle.page_core.proofs.Places.{inner_numbers, inner_drawn, inner_depth, leaf_numbers, no_numbers, special_drawn, rest_of_and, first_false}
use Rattle.page_core.proofs.Places.{second_false, few_passed, reached-none, item_at, item_is, leaf_drawn}
use Rattle.page_core.proofs.Walked.{told, told_on, told_index}
use Rattle.page_core.proofs.list_drawing.+draw_items.Goals as goal
use Rattle.page_core.proofs.list_drawing.+draw_items.Goals.{draw_items-in-Box+in-Some-inner+in_ok-draw_group-in-Box+else-not-branch, draw_items-in-Box+in_default-inner, draw_items-in-Special+in-Some-text+in_ok-draw_special-in-Special, draw_items-in-Special+in_default-text, draw_items-in_default-item}

pub draw_group-returns-then-is_empty-clause-fits : goal.draw_group-returns-then-is_empty-clause-fits
draw_group-returns-then-is_empty-clause-fits g t c =
    let b = g.B.BoxRef.box_node c.args.tree in
    sym (no_numbers b c.args.at.h (list_v b.kind b.height c.args.at.v) b.list
    (subst (λ (box : BoxNode). (length (nodes_of box.list) == 0) ≡ true) c.as_box-box_node.ensures (sym c.is_empty.ensures ∙ c.if-is_empty.true)))

pub draw_items-loop-next-init : goal.draw_items-loop-next-init
draw_items-loop-next-init g t c =
    let b = c.as_box-box_node.result.now in
    let h = c.args.begin.now.h in
    let v = c.args.begin.now.v in
    let items = items_of c.as_slice-items.result.now in
    record {
      within = omega arith;
      cursor = c.new-walk.ensures.cursor ∙ reached-none b.kind b.setting;
      here = c.new-walk.ensures.here;
      left = refl;
      marks = refl {a = g.S.MarkSink.drawn_with b.kind c.args.sink.now (drawn_after b h v [] items)};
    }

pub draw_items-draw_item-requires-clause-items_bounded : goal.draw_items-draw_item-requires-clause-items_bounded
draw_items-draw_item-requires-clause-items_bounded g t c =
    let b = c.as_box-box_node.result.now in
    let xs = c.as_slice-items.result.now in
    let i = c.in-Some.index in
    let walked = told_index (λ n. c.draw_text.new.walk.cursor ≡ sums_after b.kind b.setting (take n xs)) _ i c.in-Some.is c.in_ok-index.ensures.cursor in
    let within_list : i < length xs = omega (arith, c.if-index-items.false) in
    few_passed b.kind b.setting xs i c.draw_text.new.walk.cursor walked within_list (rw c.as_slice-items.ensures.nodes c.as_slice-items.ensures.list_bounded)

pub draw_items-returns-in_default-2-clause-fits : goal.draw_items-returns-in_default-2-clause-fits
draw_items-returns-in_default-2-clause-fits g t c =
    let b = c.as_box-box_node.result.now in
    let h = c.args.begin.now.h in
    let v = c.args.begin.now.v in
    let xs = c.as_slice-items.result.now in
    let i = c.in-Some.index in
    let walked = told_index (λ n. c.draw_text.new.walk.cursor ≡ sums_after b.kind b.setting (take n xs)) _ i c.in-Some.is c.in_ok-index.ensures.cursor in
    let within_list : i < length xs = omega (arith, c.if-index-items.false) in
    let left = told_index (λ n. list_all fits (numbers_left b h v xs n) ≡ list_all fits (numbers_left b h v xs c.loop-next.next)) _ i c.in-Some.is c.in_ok-index.ensures.left
    ∙ c.loop-next.invariant.left in
    let x = c.index-items-index.result in
    let here = item_fits b h v (take i xs) x c.draw_text.new.walk.cursor _ walked (sym (ap is_some c.in_default-2.is) ∙ c.in_ok-at.ensures.fits) in
    let whole : items_of xs ≡ b.list = ap items_of c.as_slice-items.ensures.nodes ∙ items_of-nodes_of b.list in
    sym (first_false _ _ here)
    ∙ (sym (fits_more b h v xs i x within_list c.index-items-index.is)
    ∙ (left ∙ (ap (λ items. list_all fits (numbers_after b h v [] items)) whole
    ∙ ap (λ (box : BoxNode). list_all fits (numbers_after box h v [] box.list)) c.as_box-box_node.ensures)))

pub draw_items-returns-in_default-clause-fits : goal.draw_items-returns-in_default-clause-fits
draw_items-returns-in_default-clause-fits g t c =
    let b = c.as_box-box_node.result.now in
    let h = c.args.begin.now.h in
    let v = c.args.begin.now.v in
    let xs = c.as_slice-items.result.now in
    let whole : items_of xs ≡ b.list = ap items_of c.as_slice-items.ensures.nodes ∙ items_of-nodes_of b.list in
    sym (c.in_ok-index.ensures.over c.in_default.is)
    ∙ (c.loop-next.invariant.left ∙ (ap (λ items. list_all fits (numbers_after b h v [] items)) whole
    ∙ ap (λ (box : BoxNode). list_all fits (numbers_after box h v [] box.list)) c.as_box-box_node.ensures))

pub draw_items-draw_group-requires : goal.draw_items-draw_group-requires
draw_items-draw_group-requires g t c κs within =
    let b = c.as_box-box_node.result.now in
    let xs = c.as_slice-items.result.now in
    let i = c.in-Some.index in
    let walked = told_index (λ n. c.draw_text.new.walk.cursor ≡ sums_after b.kind b.setting (take n xs)) _ i c.in-Some.is c.in_ok-index.ensures.cursor in
    let within_list : i < length xs = omega (arith, c.if-index-items.false) in
    let x = c.index-items-index.result in
    let found = c.in-Some-inner.ensures.some in
    let read = ap (λ (ys : List Node). slice_get ys i) (c.as_slice-items.ensures.nodes ∙ ap (λ (box : BoxNode). nodes_of box.list) c.as_box-box_node.ensures) ∙ found.1 in
    let is = item_is xs i x _ within_list c.index-items-index.is read in
    let deep = inner_depth b.list xs i x found.0 (g.B.BoxRef.box_node c.in-Some-inner.inner) within_list c.index-items-index.is c.as_slice-items.ensures.nodes is in
    (omega (arith, deep, ap (λ (box : BoxNode). items_depth box.list) c.as_box-box_node.ensures, c.decreases), within)

pub draw_items-returns-then-not-branch-clause-fits : goal.draw_items-returns-then-not-branch-clause-fits
draw_items-returns-then-not-branch-clause-fits g t c =
    let b = c.as_box-box_node.result.now in
    let h = c.args.begin.now.h in
    let v = c.args.begin.now.v in
    let xs = c.as_slice-items.result.now in
    let i = c.in-Some.index in
    let walked = told_index (λ n. c.draw_text.new.walk.cursor ≡ sums_after b.kind b.setting (take n xs)) _ i c.in-Some.is c.in_ok-index.ensures.cursor in
    let within_list : i < length xs = omega (arith, c.if-index-items.false) in
    let left = told_index (λ n. list_all fits (numbers_left b h v xs n) ≡ list_all fits (numbers_left b h v xs c.loop-next.next)) _ i c.in-Some.is c.in_ok-index.ensures.left
    ∙ c.loop-next.invariant.left in
    let x = c.index-items-index.result in
    let inner = g.B.BoxRef.box_node c.in-Some-inner.inner in
    let found = c.in-Some-inner.ensures.some in
    let read = ap (λ (ys : List Node). slice_get ys i) (c.as_slice-items.ensures.nodes ∙ ap (λ (box : BoxNode). nodes_of box.list) c.as_box-box_node.ensures) ∙ found.1 in
    let is = item_is xs i x _ within_list c.index-items-index.is read in
    let here = item_fits b h v (take i xs) x c.draw_text.new.walk.cursor _ walked (sym (ap is_some c.in-Some-2.is) ∙ c.in_ok-at.ensures.fits) in
    let place = place_at b.setting c.draw_text.new.walk.cursor in
    let right = told (λ (p : Point ℤ). p.h ≡ reference_h b.kind (right_at b.kind h place) x) _ c.in-Some-2.at c.in-Some-2.is c.in_ok-at.ensures.h in
    let below = told (λ (p : Point ℤ). p.v ≡ reference_v b.kind (down_at b.kind v place) x) _ c.in-Some-2.at c.in-Some-2.is c.in_ok-at.ensures.v in
    let start_v = list_v inner.kind inner.height c.point.result.v in
    let begin = inner_begin b inner h v (take i xs) x found.0 c.draw_text.new.walk.cursor c.in-Some-2.at.h c.in-Some-2.at.v c.point.result.h start_v
    walked is right below c.point.ensures.h (ap (list_v inner.kind inner.height) c.point.ensures.v) in
    let numbers = inner_numbers b inner (item_h b h (take i xs)) (item_v b v (take i xs)) found.0 c.point.result.h start_v x is begin in
    let none : false ≡ list_all fits (numbers_inside b (item_h b h (take i xs)) (item_v b v (take i xs)) x) =
    sym c.if-not-branch.true ∙ (c.in_ok-draw_group-in-Box.ensures.fits ∙ sym (ap (list_all fits) numbers)) in
    let whole : items_of xs ≡ b.list = ap items_of c.as_slice-items.ensures.nodes ∙ items_of-nodes_of b.list in
    sym (second_false _ _ _ none)
    ∙ (sym (fits_more b h v xs i x within_list c.index-items-index.is)
    ∙ (left ∙ (ap (λ items. list_all fits (numbers_after b h v [] items)) whole
    ∙ ap (λ (box : BoxNode). list_all fits (numbers_after box h v [] box.list)) c.as_box-box_node.ensures)))

pub draw_items-loop-next-preserved : goal.draw_items-loop-next-preserved
draw_items-loop-next-preserved g t c =
    let b = c.as_box-box_node.result.now in
    let h = c.args.begin.now.h in
    let v = c.args.begin.now.v in
    let xs = c.as_slice-items.result.now in
    let i = c.in-Some.index in
    let walked = told_index (λ n. c.draw_text.new.walk.cursor ≡ sums_after b.kind b.setting (take n xs)) _ i c.in-Some.is c.in_ok-index.ensures.cursor in
    let within_list : i < length xs = omega (arith, c.if-index-items.false) in
    let left = told_index (λ n. list_all fits (numbers_left b h v xs n) ≡ list_all fits (numbers_left b h v xs c.loop-next.next)) _ i c.in-Some.is c.in_ok-index.ensures.left
    ∙ c.loop-next.invariant.left in
    let marked_so_far = told_index
    (λ n. g.S.MarkSink.drawn_with b.kind c.draw_text.new.sink (drawn_left b h v xs n) ≡ g.S.MarkSink.drawn_with b.kind c.loop-next.sink
    (drawn_left b h v xs c.loop-next.next)) _ i c.in-Some.is c.in_ok-index.ensures.marks
    ∙ c.loop-next.invariant.marks in
    let x = c.index-items-index.result in
    let at_i = c.index-items-index.is in
    let x_h = item_h b h (take i xs) in
    let x_v = item_v b v (take i xs) in
    let later = drawn_left b h v xs (i + 1) in
    let own = inside b x_h x_v x later in
    let drawn = g.S.MarkSink.drawn_with b.kind in
    let first = c.draw_text.new.sink in
    let marked = c.draw_item.new.sink in
    let read : nodes_of (g.B.BoxRef.box_node c.args.tree).list ≡ xs = sym (c.as_slice-items.ensures.nodes ∙ ap (λ (box : BoxNode). nodes_of box.list) c.as_box-box_node.ensures) in
    let shown : slice_get (nodes_of (g.B.BoxRef.box_node c.args.tree).list) i ≡ Some x = ap (λ (ys : List Node). slice_get ys i) read ∙ item_at xs i x within_list at_i in
    let here = item_fits b h v (take i xs) x c.draw_text.new.walk.cursor _ walked (sym (ap is_some c.in-Some-2.is) ∙ c.in_ok-at.ensures.fits) in
    let place = place_at b.setting c.draw_text.new.walk.cursor in
    let seen = marked_at b h v place x own in
    let mark = item_marks b h v (take i xs) x c.draw_text.new.walk.cursor own seen walked refl in
    let right = told (λ (p : Point ℤ). p.h ≡ reference_h b.kind (right_at b.kind h place) x) _ c.in-Some-2.at c.in-Some-2.is c.in_ok-at.ensures.h in
    let below = told (λ (p : Point ℤ). p.v ≡ reference_v b.kind (down_at b.kind v place) x) _ c.in-Some-2.at c.in-Some-2.is c.in_ok-at.ensures.v in
    let marks_same = told_on ((rest : DrawnPage) → drawn first (marked_at b h v place x rest) ≡ drawn marked rest) _ c.in-Some-2.at c.in-Some-2.is
    c.in_ok-at.ensures.mark in
    let so_far : drawn first (drawn_left b h v xs i) ≡ drawn marked own =
    ap (drawn first) (drawn_more b h v xs i x within_list at_i ∙ sym mark) ∙ marks_same own in
    let within : (true ≡ list_all fits (numbers_inside b x_h x_v x)) × (drawn marked own ≡ drawn c.match-item.sink later) = elim c.match-item.branch [
      | draw_items-in-Box+in-Some-inner+in_ok-draw_group-in-Box+else-not-branch w ↦
          let inner = g.B.BoxRef.box_node w.in-Some-inner.inner in
          let found = w.in-Some-inner.ensures.some in
          let is : x ≡ nodes.Box found.0 inner = item_is xs i x _ within_list at_i (sym (ap (λ (ys : List Node). slice_get ys i) read) ∙ found.1) in
          let start_v = list_v inner.kind inner.height w.point.result.v in
          let begin = inner_begin b inner h v (take i xs) x found.0 c.draw_text.new.walk.cursor c.in-Some-2.at.h c.in-Some-2.at.v w.point.result.h start_v
          walked is right below w.point.ensures.h (ap (list_v inner.kind inner.height) w.point.ensures.v) in
          let numbers = inner_numbers b inner x_h x_v found.0 w.point.result.h start_v x is begin in
          let group = inner_drawn b inner x_h x_v found.0 w.point.result.h start_v x later is begin in
          let fit : w.in_ok-draw_group-in-Box.field-0 ≡ true = w.if-not-branch.false in (
            sym fit ∙ (w.in_ok-draw_group-in-Box.ensures.fits ∙ sym (ap (list_all fits) numbers)),
            ap (drawn marked) group ∙ (w.in_ok-draw_group-in-Box.ensures.marks fit b.kind later ∙ sym (ap (λ (s : _). drawn s later) w.sink-is)),
          )
      | draw_items-in-Box+in_default-inner w ↦ absurd (w.inner.ensures.none w.in_default-inner.is _ _ (shown ∙ ap Some w.in-Box.is))
      | draw_items-in-Special+in-Some-text+in_ok-draw_special-in-Special w ↦
          let text = g.B.BoxRef.bytes w.in-Some-text.text in
          let is : x ≡ nodes.Special text = item_is xs i x _ within_list at_i (sym (ap (λ (ys : List Node). slice_get ys i) read) ∙ w.in-Some-text.ensures.some) in
          let found = special_drawn b h v (take i xs) x text c.draw_text.new.walk.cursor c.in-Some-2.at.h c.in-Some-2.at.v later walked is
          right below in (
            sym (ap (λ (y : Node). list_all fits (numbers_inside b x_h x_v y)) is),
            ap (drawn marked) found ∙ (w.in_ok-draw_special-in-Special.ensures.special b.kind later ∙ sym (ap (λ (s : _). drawn s later) w.sink-is)),
          )
      | draw_items-in-Special+in_default-text w ↦ absurd (w.text.ensures.none w.in_default-text.is _ (shown ∙ ap Some w.in-Special.is))
      | draw_items-in_default-item w ↦ (
        sym (ap (list_all fits) (leaf_numbers b x_h x_v x w.in_default-item.not-Box)),
        ap (drawn marked) (leaf_drawn b x_h x_v x later w.in_default-item.not-Box w.in_default-item.not-Special)
            ∙ sym (ap (λ (s : _). drawn s later) w.sink-is),
      )
    ] in
    record {
      within = omega (arith, within_list);
      cursor =
          told_on (c.draw_item.new.walk.cursor ≡ one_more b.kind b.setting c.draw_text.new.walk.cursor x) _ c.in-Some-2.at c.in-Some-2.is c.in_ok-at.ensures.cursor
          ∙ (ap (λ r. one_more b.kind b.setting r x) walked ∙ reached-more b.kind b.setting xs i x within_list at_i);
      here = told_on (c.draw_item.new.walk.here ≡ point_in b h v (place_at b.setting c.draw_item.new.walk.cursor)) _ c.in-Some-2.at c.in-Some-2.is c.in_ok-at.ensures.here;
      left = rest_of_and _ _ _ within.0
          (rest_of_and _ _ _ here (sym (fits_more b h v xs i x within_list at_i) ∙ left));
      marks = sym (so_far ∙ within.1) ∙ marked_so_far;
    }

pub draw_items-returns-clause-fits : goal.draw_items-returns-clause-fits
draw_items-returns-clause-fits g t c =
    let b = c.as_box-box_node.result.now in
    let h = c.args.begin.now.h in
    let v = c.args.begin.now.v in
    let xs = c.as_slice-items.result.now in
    let i = c.loop-next.next in
    let whole : items_of xs ≡ b.list = ap items_of c.as_slice-items.ensures.nodes ∙ items_of-nodes_of b.list in
    sym (ap (λ after. list_all fits (numbers_after b h v (take i xs) (items_of after))) (drop_all i xs c.loop-next-test.false))
    ∙ (c.loop-next.invariant.left ∙ (ap (λ items. list_all fits (numbers_after b h v [] items)) whole
    ∙ ap (λ (box : BoxNode). list_all fits (numbers_after box h v [] box.list)) c.as_box-box_node.ensures))

pub draw_items-returns-then-index-items-clause-fits : goal.draw_items-returns-then-index-items-clause-fits
draw_items-returns-then-index-items-clause-fits g t c =
    let b = c.as_box-box_node.result.now in
    let h = c.args.begin.now.h in
    let v = c.args.begin.now.v in
    let xs = c.as_slice-items.result.now in
    let i = c.in-Some.index in
    let left = told_index (λ n. list_all fits (numbers_left b h v xs n) ≡ list_all fits (numbers_left b h v xs c.loop-next.next)) _ i c.in-Some.is c.in_ok-index.ensures.left
    ∙ c.loop-next.invariant.left in
    let whole : items_of xs ≡ b.list = ap items_of c.as_slice-items.ensures.nodes ∙ items_of-nodes_of b.list in
    sym (ap (λ after. list_all fits (numbers_after b h v (take i xs) (items_of after))) (drop_all i xs (omega (arith, c.if-index-items.true))))
    ∙ (left ∙ (ap (λ items. list_all fits (numbers_after b h v [] items)) whole
    ∙ ap (λ (box : BoxNode). list_all fits (numbers_after box h v [] box.list)) c.as_box-box_node.ensures))

pub draw_items-returns-clause-marks : goal.draw_items-returns-clause-marks
draw_items-returns-clause-marks g t c all =
    let b = c.as_box-box_node.result.now in
    let h = c.args.begin.now.h in
    let v = c.args.begin.now.v in
    let xs = c.as_slice-items.result.now in
    let i = c.loop-next.next in
    let drawn = g.S.MarkSink.drawn_with in
    let whole : items_of xs ≡ b.list = ap items_of c.as_slice-items.ensures.nodes ∙ items_of-nodes_of b.list in
    let done = ap (λ after. drawn b.kind c.loop-next.sink (drawn_after b h v (take i xs) (items_of after))) (drop_all i xs c.loop-next-test.false) in
    sym (ap (λ (box : BoxNode). drawn box.kind c.args.sink.now (drawn_after box h v [] box.list)) c.as_box-box_node.ensures)
    ∙ (ap (λ items. drawn b.kind c.args.sink.now (drawn_after b h v [] items)) (sym whole)
    ∙ (sym c.loop-next.invariant.marks ∙ (done ∙ ap (λ (box : BoxNode). drawn box.kind c.loop-next.sink blank) c.as_box-box_node.ensures)))

pub draw_items-returns-then-index-items-clause-marks : goal.draw_items-returns-then-index-items-clause-marks
draw_items-returns-then-index-items-clause-marks g t c all =
    let b = c.as_box-box_node.result.now in
    let h = c.args.begin.now.h in
    let v = c.args.begin.now.v in
    let xs = c.as_slice-items.result.now in
    let i = c.in-Some.index in
    let marked_so_far = told_index
    (λ n. g.S.MarkSink.drawn_with b.kind c.draw_text.new.sink (drawn_left b h v xs n) ≡ g.S.MarkSink.drawn_with b.kind c.loop-next.sink
    (drawn_left b h v xs c.loop-next.next)) _ i c.in-Some.is c.in_ok-index.ensures.marks
    ∙ c.loop-next.invariant.marks in
    let drawn = g.S.MarkSink.drawn_with in
    let whole : items_of xs ≡ b.list = ap items_of c.as_slice-items.ensures.nodes ∙ items_of-nodes_of b.list in
    let done = ap (λ after. drawn b.kind c.draw_text.new.sink (drawn_after b h v (take i xs) (items_of after)))
    (drop_all i xs (omega (arith, c.if-index-items.true))) in
    sym (ap (λ (box : BoxNode). drawn box.kind c.args.sink.now (drawn_after box h v [] box.list)) c.as_box-box_node.ensures)
    ∙ (ap (λ items. drawn b.kind c.args.sink.now (drawn_after b h v [] items)) (sym whole)
    ∙ (sym marked_so_far ∙ (done ∙ ap (λ (box : BoxNode). drawn box.kind c.draw_text.new.sink blank) c.as_box-box_node.ensures)))
