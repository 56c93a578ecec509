-- The loop over the items of a list: what is written, and the rows and texts that are still to be written, are together all rows and texts.
use Rattle.std.proofs.Common.{◌≡◌, ◌+◌, [], length, take, drop}
use Rattle.node_core.specs.Items.{items_count, items_depth, items_text}
use Rattle.node_core.specs.Nodes.{items_of}
use Rattle.pack_core.specs.Cursors.{sums_after}
use Rattle.box_items.specs.Rows.{ItemPlace, rows_after, texts_in}
use Rattle.box_items.specs.Private.Written.{IsPlace, IsWalkPlace, put_from}
use Rattle.box_items.proofs.writing.+write_list.Given as goal

abbrev pub decreases-write_list : goal.decreases-write_list
decreases-write_list l = items_depth l.box_node.now.list

abbrev pub invariant-loop-node : goal.invariant-loop-node
invariant-loop-node l = record {
  cursor : l.walk.cursor ≡ sums_after l.box_node.kind l.box_node.setting (take l.node-index l.nodes);
  walk : IsWalkPlace l.box_node.setting l.walk;
  count : l.written.items + items_count (items_of (drop l.node-index l.nodes)) ≡ l.initial.written.items + items_count (items_of l.nodes);
  bytes : l.written.text + items_text (items_of (drop l.node-index l.nodes)) ≡ l.initial.written.text + items_text (items_of l.nodes);
  items : (from : ItemPlace) → IsPlace l.begin from → from.text ≡ l.initial.written.text
      → put_from l.items l.written.items (rows_after l.box_node (record from { text = l.written.text }) (take l.node-index l.nodes) (items_of (drop l.node-index l.nodes)))
      ≡ put_from l.initial.items l.initial.written.items (rows_after l.box_node from [] (items_of l.nodes));
  text : put_from l.text l.written.text (texts_in (items_of (drop l.node-index l.nodes)))
      ≡ put_from l.initial.text l.initial.written.text (texts_in (items_of l.nodes));
  item_space : length l.items ≡ length l.initial.items;
  text_space : length l.text ≡ length l.initial.text;
}
