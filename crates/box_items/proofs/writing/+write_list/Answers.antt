use Rattle.std.proofs.Common.{◌≡◌, ◌∙◌, ◌+◌, ◌<◌, ◌≤◌, [], ℕ, List, ap, arith, drop, length, refl, subst, sym, take}
use Rattle.std.specs.Int.{int_wrap, w128}
use Rattle.std.proofs.lemmas.List.{drop_all}
use Rattle.node_core.specs.declared.tree.Node.{Node}
use Rattle.node_core.specs.declared.tree.Node.TheVariants as nodes
use Rattle.node_core.specs.declared.tree.BoxNode.{BoxNode}
use Rattle.node_core.specs.Items.{Items, items_count, items_depth, items_text}
use Rattle.node_core.specs.Nodes.{frame_of, items_of}
use Rattle.node_core.proofs.NodeLemmas.{items_of-nodes_of}
use Rattle.page_core.proofs.Places.{few_passed, inner_depth, reached-none, reached-place}
use Rattle.pack_core.specs.Cursors.{WalkSums, one_more}
use Rattle.pack_core.proofs.Walks.{reached-more}
use Rattle.box_items.specs.declared.writing.Progress.{Progress}
use Rattle.box_items.specs.Rows.{ItemPlace, list_place, place_after, reference_point, rows_after, set_width_of, texts_in}
use Rattle.box_items.specs.Private.Written.{IsPlace, count_inside, place_of_node, put_from, row_of_node, rows_inside, text_inside, texts_inside}
use Rattle.box_items.proofs.Buffers.{put_is, put_three, put_two}
use Rattle.box_items.proofs.Listed.{bytes_left, count_left, far, length-inside, length-texts_inside, no_count, no_rows, no_texts, rows_left, texts_left}
use Rattle.box_items.proofs.Wrapped.{passed_on}
use Rattle.box_items.proofs.writing.+write_list.Goals as goal
use Rattle.box_items.proofs.writing.+write_list.Goals.{in-Special, in-Box, in_default}

pub loop-node-init : goal.loop-node-init
loop-node-init t c =
    let b = c.args.box_node.now in
    let xs = c.as_slice-nodes.result.now in
    record {
      cursor = c.new-walk.ensures.cursor ∙ reached-none b.kind b.setting;
      walk = c.new-walk.ensures.place;
      count = refl;
      bytes = refl;
      items = λ from is at. ap (λ (n : ℕ). put_from c.args.items.now c.args.written.now.items (rows_after b (record from { text = n }) [] (items_of xs))) (sym at);
      text = refl;
      item_space = refl;
      text_space = refl;
    }

pub go_past-set_width-requires-clause-items_bounded : goal.go_past-set_width-requires-clause-items_bounded
go_past-set_width-requires-clause-items_bounded t c =
    let b = c.args.box_node.now in
    few_passed b.kind b.setting c.as_slice-nodes.result.now c.loop-node.node-index c.loop-node.walk.cursor c.loop-node.invariant.cursor c.loop-node-test.true
    (rw c.as_slice-nodes.ensures.nodes c.as_slice-nodes.ensures.list_bounded)

pub put_row-requires : goal.put_row-requires
put_row-requires t c =
    let b = c.args.box_node.now in
    let xs = c.as_slice-nodes.result.now in
    let whole : items_of xs ≡ b.list = ap items_of c.as_slice-nodes.ensures.nodes ∙ items_of-nodes_of b.list in
    let more = count_left xs c.loop-node.node-index c.node-item.result c.loop-node-test.true c.node-item.is in
    omega (arith, more, ap items_count whole, c.loop-node.invariant.count, c.loop-node.invariant.item_space, c.requires.items)

pub put_text-requires : goal.put_text-requires
put_text-requires t c =
    let b = c.args.box_node.now in
    let xs = c.as_slice-nodes.result.now in
    let whole : items_of xs ≡ b.list = ap items_of c.as_slice-nodes.ensures.nodes ∙ items_of-nodes_of b.list in
    let more = bytes_left xs c.loop-node.node-index c.node-item.result c.loop-node-test.true c.node-item.is in
    omega (
      arith,
      more,
      ap text_inside c.in-Special.is,
      ap length c.as_bytes.ensures.bytes,
      ap items_text whole,
      c.put_row.ensures.bytes,
      c.loop-node.invariant.bytes,
      c.loop-node.invariant.text_space,
      c.requires.text,
    )

pub write_list-requires : goal.write_list-requires
write_list-requires t c =
    let b = c.args.box_node.now in
    let xs = c.as_slice-nodes.result.now in
    let x = c.node-item.result in
    let i = c.loop-node.node-index in
    let inner = c.in-Box.inner in
    let whole : items_of xs ≡ b.list = ap items_of c.as_slice-nodes.ensures.nodes ∙ items_of-nodes_of b.list in
    let rows = count_left xs i x c.loop-node-test.true c.node-item.is in
    let bytes = bytes_left xs i x c.loop-node-test.true c.node-item.is in
    let deep = inner_depth b.list xs i x c.in-Box.field-0 inner c.loop-node-test.true c.node-item.is c.as_slice-nodes.ensures.nodes c.in-Box.is in
    let space = c.put_row.auto.items in (
      omega (arith, deep, ap (λ (d : BoxNode). items_depth d.list) c.deref.ensures, c.decreases),
      (
        omega (
          arith,
          rows,
          space,
          ap count_inside c.in-Box.is,
          ap (λ (d : BoxNode). items_count d.list) c.deref.ensures,
          ap items_count whole,
          c.put_row.ensures.count,
          c.loop-node.invariant.count,
          c.loop-node.invariant.item_space,
          c.requires.items,
        ),
        omega (
          arith,
          bytes,
          ap text_inside c.in-Box.is,
          ap (λ (d : BoxNode). items_text d.list) c.deref.ensures,
          ap items_text whole,
          c.put_row.ensures.bytes,
          c.loop-node.invariant.bytes,
          c.loop-node.invariant.text_space,
          c.requires.text,
        ),
      ),
    )

pub loop-node-preserved : goal.loop-node-preserved
loop-node-preserved t c =
    let b = c.args.box_node.now in
    let xs = c.as_slice-nodes.result.now in
    let i = c.loop-node.node-index in
    let x = c.node-item.result in
    let within : i < length xs = c.loop-node-test.true in
    let at_i = c.node-item.is in
    let before = take i xs in
    let walk = c.loop-node.walk in
    let first = c.put_row.new.items in
    let n = c.put_row.new.written.items in
    let m = c.put_row.new.written.text in
    let whole : items_of xs ≡ b.list = ap items_of c.as_slice-nodes.ensures.nodes ∙ items_of-nodes_of b.list in
    let rows = count_left xs i x within at_i in
    let bytes = bytes_left xs i x within at_i in
    let here = passed_on walk.place _ (c.loop-node.invariant.walk ∙ ap (int_wrap w128) (reached-place b before walk.cursor c.loop-node.invariant.cursor)) in
    let place = λ (from : ItemPlace). place_after b (record from { text = c.loop-node.written.text }) before in
    let placed : (from : ItemPlace) → IsPlace c.args.begin.now from → IsPlace c.place_of_node-at.result (place_of_node b.kind (place from) x) =
    λ from is. c.place_of_node-at.ensures (place from) (c.place_after-at.ensures from before is here) in
    let step : (c.match-node.written.items ≡ n + count_inside x)
    × ((c.match-node.written.text ≡ m + text_inside x)
    × (((from : ItemPlace) → IsPlace c.args.begin.now from → c.match-node.items ≡ put_from first n (rows_inside (place_of_node b.kind (place from) x) x))
    × (c.match-node.text ≡ put_from c.loop-node.text m (texts_inside x)))) =
    elim c.match-node.branch [
      | in-Special w ↦
          let is : x ≡ nodes.Special w.in-Special.special = w.in-Special.is in
          let text = w.as_bytes.ensures.bytes in
          let space : m + length w.as_bytes.result.now ≤ length c.loop-node.text =
          omega (
            arith,
            bytes,
            ap text_inside is,
            ap length text,
            ap items_text whole,
            c.put_row.ensures.bytes,
            c.loop-node.invariant.bytes,
            c.loop-node.invariant.text_space,
            c.requires.text,
          ) in (
            omega (arith, ap (λ (r : Progress). r.items) w.written-is, w.put_text.ensures.count, ap count_inside is),
            (
              omega (arith, ap (λ (r : Progress). r.text) w.written-is, w.put_text.ensures.bytes, ap length text, ap text_inside is),
              (
                λ from at. w.items-is ∙ sym (ap (λ (y : Node). put_from first n (rows_inside (place_of_node b.kind (place from) y) y)) is),
                w.text-is
                    ∙ (w.put_text.ensures.text
                    ∙ (sym (put_is c.loop-node.text m w.as_bytes.result.now space)
                    ∙ (ap (put_from c.loop-node.text m) text ∙ sym (ap (λ (y : Node). put_from c.loop-node.text m (texts_inside y)) is)))),
              ),
            ),
          )
      | in-Box w ↦
          let inner = w.in-Box.inner in
          let shift = w.in-Box.field-0 in
          let is : x ≡ nodes.Box shift inner = w.in-Box.is in (
            omega (arith, ap (λ (r : Progress). r.items) w.written-is, w.write_list.ensures.count, ap (λ (d : BoxNode). items_count d.list) w.deref.ensures, ap count_inside is),
            (
              omega (arith, ap (λ (r : Progress). r.text) w.written-is, w.write_list.ensures.bytes, ap (λ (d : BoxNode). items_text d.list) w.deref.ensures, ap text_inside is),
              (
                λ from at.
                    let point = reference_point b.kind (place from) shift (frame_of inner) in
                    let reached = subst (λ (y : Node). IsPlace c.place_of_node-at.result (place_of_node b.kind (place from) y)) is (placed from at) in
                    let begin = subst (λ (d : BoxNode). IsPlace w.list_place.result (list_place (frame_of d) point)) w.deref-in-Box.ensures (w.list_place.ensures point reached) in
                    w.items-is
                    ∙ (w.write_list.ensures.items (list_place (frame_of inner) point) begin (sym c.put_row.ensures.bytes)
                    ∙ (ap (λ (d : BoxNode). put_from first n (rows_after d (list_place (frame_of inner) point) [] d.list)) w.deref.ensures
                    ∙ sym (ap (λ (y : Node). put_from first n (rows_inside (place_of_node b.kind (place from) y) y)) is))),
                w.text-is
                    ∙ (w.write_list.ensures.text
                    ∙ (ap (λ (d : BoxNode). put_from c.loop-node.text m (texts_in d.list)) w.deref.ensures
                    ∙ sym (ap (λ (y : Node). put_from c.loop-node.text m (texts_inside y)) is))),
              ),
            ),
          )
      | in_default w ↦
          let none = no_texts x w.in_default.not-Box w.in_default.not-Special in (
            omega (arith, ap (λ (r : Progress). r.items) w.written-is, no_count x w.in_default.not-Box),
            (
              omega (arith, ap (λ (r : Progress). r.text) w.written-is, ap length none, length-texts_inside x),
              (
                λ from at. w.items-is ∙ sym (ap (put_from first n) (no_rows x w.in_default.not-Box (place_of_node b.kind (place from) x))),
                w.text-is ∙ sym (ap (put_from c.loop-node.text m) none),
              ),
            ),
          )
    ] in
    let counted = step.0 in
    let read = step.1.0 in
    record {
      cursor = c.go_past-set_width.ensures.cursor
          ∙ (ap (λ (w : WalkSums). one_more b.kind b.setting w x) c.loop-node.invariant.cursor ∙ reached-more b.kind b.setting xs i x within at_i);
      walk = c.go_past-set_width.ensures.place;
      count = omega (arith, counted, c.put_row.ensures.count, rows, c.loop-node.invariant.count);
      bytes = omega (arith, read, c.put_row.ensures.bytes, bytes, c.loop-node.invariant.bytes);
      items = λ from is at.
          let start : ItemPlace = record from { text = c.loop-node.written.text } in
          let point = place_of_node b.kind (place from) x in
          let later = λ (k : ℕ). rows_after b (record from { text = k }) (take (i + 1) xs) (items_of (drop (i + 1) xs)) in
          let k : c.match-node.written.text ≡ c.loop-node.written.text + text_inside x = omega (arith, read, c.put_row.ensures.bytes) in
          let width = passed_on c.go_past-set_width.result _
          (c.go_past-set_width.ensures.distance
          ∙ ap (int_wrap w128) (far b before x walk.cursor c.go_past-set_width.new.self.cursor c.loop-node.invariant.cursor c.go_past-set_width.ensures.cursor)) in
          ap (λ (j : ℕ). put_from c.match-node.items c.match-node.written.items (later j)) k
          ∙ (put_three c.loop-node.items first c.match-node.items c.loop-node.written.items n c.match-node.written.items
          (row_of_node b point (set_width_of b before x) x) (rows_inside point x) (later (c.loop-node.written.text + text_inside x))
          (rows_after b start before (items_of (drop i xs)))
          (c.put_row.ensures.items point (set_width_of b before x) (placed from is) width)
          c.put_row.ensures.count (step.1.1.0 from is) (counted ∙ ap (λ (j : ℕ). n + j) (sym (length-inside point x))) (rows_left xs i x within at_i b start)
          ∙ c.loop-node.invariant.items from is at);
      text = put_two c.loop-node.text c.match-node.text m c.match-node.written.text (texts_inside x) (texts_in (items_of (drop (i + 1) xs)))
          (texts_in (items_of (drop i xs))) step.1.1.1 (read ∙ ap (λ (j : ℕ). m + j) (sym (length-texts_inside x))) (texts_left xs i x within at_i)
          ∙ (ap (λ (j : ℕ). put_from c.loop-node.text j (texts_in (items_of (drop i xs)))) c.put_row.ensures.bytes ∙ c.loop-node.invariant.text);
      item_space = omega (arith, c.match-node.auto.items, c.put_row.auto.items, c.loop-node.invariant.item_space);
      text_space = omega (arith, c.match-node.auto.text, c.loop-node.invariant.text_space);
    }

pub returns-clause-count : goal.returns-clause-count
returns-clause-count t c =
    let b = c.args.box_node.now in
    let xs = c.as_slice-nodes.result.now in
    let whole : items_of xs ≡ b.list = ap items_of c.as_slice-nodes.ensures.nodes ∙ items_of-nodes_of b.list in
    let none = ap (λ (ys : List Node). items_count (items_of ys)) (drop_all c.loop-node.node-index xs c.loop-node-test.false) in
    omega (arith, none, ap items_count whole, c.loop-node.invariant.count)

pub returns-clause-bytes : goal.returns-clause-bytes
returns-clause-bytes t c =
    let b = c.args.box_node.now in
    let xs = c.as_slice-nodes.result.now in
    let whole : items_of xs ≡ b.list = ap items_of c.as_slice-nodes.ensures.nodes ∙ items_of-nodes_of b.list in
    let none = ap (λ (ys : List Node). items_text (items_of ys)) (drop_all c.loop-node.node-index xs c.loop-node-test.false) in
    omega (arith, none, ap items_text whole, c.loop-node.invariant.bytes)

pub returns-clause-items : goal.returns-clause-items
returns-clause-items t c from is at =
    let b = c.args.box_node.now in
    let xs = c.as_slice-nodes.result.now in
    let i = c.loop-node.node-index in
    let whole : items_of xs ≡ b.list = ap items_of c.as_slice-nodes.ensures.nodes ∙ items_of-nodes_of b.list in
    let none : drop i xs ≡ [] = drop_all i xs c.loop-node-test.false in
    sym (ap (λ (ys : List Node). put_from c.loop-node.items c.loop-node.written.items (rows_after b (record from { text = c.loop-node.written.text }) (take i xs) (items_of ys))) none)
    ∙ (c.loop-node.invariant.items from is at
    ∙ ap (λ (items : Items). put_from c.args.items.now c.args.written.now.items (rows_after b from [] items)) whole)

pub returns-clause-text : goal.returns-clause-text
returns-clause-text t c =
    let b = c.args.box_node.now in
    let xs = c.as_slice-nodes.result.now in
    let i = c.loop-node.node-index in
    let whole : items_of xs ≡ b.list = ap items_of c.as_slice-nodes.ensures.nodes ∙ items_of-nodes_of b.list in
    let none : drop i xs ≡ [] = drop_all i xs c.loop-node-test.false in
    sym (ap (λ (ys : List Node). put_from c.loop-node.text c.loop-node.written.text (texts_in (items_of ys))) none)
    ∙ (c.loop-node.invariant.text ∙ ap (λ (items : Items). put_from c.args.text.now c.args.written.now.text (texts_in items)) whole)
