use Rattle.std.proofs.Common.{◌≡◌, ◌∙◌, ◌≤◌, [], ◌∷◌, ap, arith, length, length-set, refl, sym}
use Rattle.std.specs.Prelude.{pos}
use Rattle.node_core.specs.Nodes.{frame_of}
use Rattle.box_items.specs.Rows.{box_row, list_place, origin, rows_after, rows_of_box, texts_in}
use Rattle.box_items.specs.Private.Written.{put_from}
use Rattle.box_items.specs.declared.row.BoxItem.{BoxItem}
use Rattle.box_items.proofs.Buffers.{put_front}
use Rattle.box_items.proofs.Listed.{all_rows, length-texts, row_count}
use Rattle.box_items.proofs.Placed.{at_origin}
use Rattle.box_items.proofs.writing.write_items.Goals as goal

pub bounds-items-0 : goal.bounds-items-0
bounds-items-0 c = omega (arith, row_count c.args.box_node.now, c.count_items-sizes.ensures.items, c.if-sizes-items.false)

pub write_list-requires-clause-items : goal.write_list-requires-clause-items
write_list-requires-clause-items c =
    omega (
      arith,
      row_count c.args.box_node.now,
      length-set c.args.items.now 0 c.write_box.new.row,
      c.count_items-sizes.ensures.items,
      c.if-sizes-items.false,
    )

pub write_list-requires-clause-text : goal.write_list-requires-clause-text
write_list-requires-clause-text c =
    omega (arith, length-texts c.args.box_node.now.list, c.count_items-sizes.ensures.text, c.if-sizes-text.false)

pub returns-clause-items : goal.returns-clause-items
returns-clause-items c _ =
    let b = c.args.box_node.now in
    let begin = list_place (frame_of b) origin in
    let row : c.write_box.new.row ≡ box_row origin (pos 0) (frame_of b) = c.write_box.ensures origin at_origin in
    let space : length (rows_of_box b) ≤ length c.args.items.now =
    omega (arith, row_count b, c.count_items-sizes.ensures.items, c.if-sizes-items.false) in
    c.write_list.ensures.items begin (c.list_place.ensures origin at_origin) refl
    ∙ (ap (λ (r : BoxItem). put_from c.args.items.now 0 (r ∷ rows_after b begin [] b.list)) row
    ∙ (ap (put_from c.args.items.now 0) (sym (all_rows b)) ∙ put_front c.args.items.now (rows_of_box b) space))

pub returns-clause-text : goal.returns-clause-text
returns-clause-text c _ =
    let b = c.args.box_node.now in
    let space : length (texts_in b.list) ≤ length c.args.text.now =
    omega (arith, length-texts b.list, c.count_items-sizes.ensures.text, c.if-sizes-text.false) in
    c.write_list.ensures.text ∙ put_front c.args.text.now (texts_in b.list) space
