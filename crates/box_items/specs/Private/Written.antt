-- What is written of the rows of a box (own).
use Rattle.std.specs.Prelude.{◌≡◌, ◌+◌, ◌+ℤ◌, ◌-◌, ◌^◌, ℕ, ℤ, List, [], ◌∷◌, length, min, set}
use Rattle.std.specs.Int.{int_wrap, w128}
use Rattle.node_core.specs.declared.tree.Kind.{Kind}
use Rattle.node_core.specs.declared.tree.Node.{Node}
use Rattle.node_core.specs.declared.tree.Node.TheVariants as nodes
use Rattle.node_core.specs.declared.tree.Setting.{Setting}
use Rattle.node_core.specs.declared.tree.BoxNode.{BoxNode}
use Rattle.node_core.specs.Items.{items_count, items_text}
use Rattle.node_core.specs.Nodes.{frame_of}
use Rattle.pack_core.specs.Cursors.{place_at}
use Rattle.box_items.specs.Rows.{ItemPlace, box_row, glue_row, glyph_row, kern_row, list_place, penalty_row, place_after, reference_point, rows_after}
use Rattle.box_items.specs.Rows.{rule_row, set_width_of, special_row, texts_in}
use Rattle.box_items.specs.declared.place.RowPlace.{RowPlace}
use Rattle.box_items.specs.declared.row.BoxItem.{BoxItem}
use Rattle.box_items.specs.declared.row.ItemKind.TheVariants as kinds
use Rattle.box_items.specs.declared.writing.ListWalk.{ListWalk}

-- A buffer after these items were written into it, one after the other, from an index on.
abbrev pub put_from : {A : Type 0} → (buffer : List A) → (at : ℕ) → (items : List A) → List A
put_from buffer at [] = buffer
put_from buffer at (x ∷ items) = put_from (set buffer at x) (at + 1) items

-- The place of a row in the code: its level stops at 2^32 - 1, and its numbers wrap around at 128 bits.
pub record IsPlace (coded : RowPlace) (exact : ItemPlace) : Type 0 where
  pub level : coded.level ≡ min exact.level (2 ^ 32 - 1)
  pub h : coded.h ≡ int_wrap w128 exact.h
  pub v : coded.v ≡ int_wrap w128 exact.v
  pub text : coded.text ≡ exact.text

-- A place at these distances to the right and down from another one.
abbrev pub moved_by : ItemPlace → (right down : ℤ) → ItemPlace
moved_by at right down = record at { h = at.h +ℤ right; v = at.v +ℤ down }

-- The place of a walk in its list is that of its cursor.
abbrev pub IsWalkPlace : Setting → ListWalk → Type 0
IsWalkPlace setting walk = walk.place ≡ int_wrap w128 (place_at setting walk.cursor)

-- The place of the row of an item: of a box its reference point.
abbrev pub place_of_node : Kind → ItemPlace → Node → ItemPlace
place_of_node kind at (nodes.Box shift inner) = reference_point kind at shift (frame_of inner)
place_of_node kind at other = at

-- The row of an item of a box at a place, which for a box is that of its reference point.
abbrev pub row_of_node : BoxNode → ItemPlace → (set_width : ℤ) → Node → BoxItem
row_of_node b at set_width (nodes.Glyph g) = glyph_row at g
row_of_node b at set_width (nodes.FontKern width) = kern_row kinds.FontKern at width
row_of_node b at set_width (nodes.Kern width) = kern_row kinds.Kern at width
row_of_node b at set_width (nodes.Glue g) = glue_row at set_width g
row_of_node b at set_width (nodes.Penalty p) = penalty_row at p
row_of_node b at set_width (nodes.Rule r) = rule_row b at r
row_of_node b at set_width (nodes.Special text) = special_row at text
row_of_node b at set_width (nodes.Box shift inner) = box_row at shift (frame_of inner)

-- The rows of the items in an item, whose row has a place.
abbrev pub rows_inside : ItemPlace → Node → List BoxItem
rows_inside at (nodes.Box shift inner) = rows_after inner (list_place (frame_of inner) at) [] inner.list
rows_inside at other = []

-- The rows of an item after the items `before` in the list of a box that begins at `from`, with those of the items in it.
abbrev pub rows_of_node : BoxNode → (from : ItemPlace) → (before : List Node) → Node → List BoxItem
rows_of_node b from before node =
    row_of_node b (place_of_node b.kind (place_after b from before) node) (set_width_of b before node) node
    ∷ rows_inside (place_of_node b.kind (place_after b from before) node) node

-- The number of items in an item.
abbrev pub count_inside : Node → ℕ
count_inside (nodes.Box shift inner) = items_count inner.list
count_inside other = 0

-- The texts of the specials in an item.
abbrev pub texts_inside : Node → List ℕ
texts_inside (nodes.Box shift inner) = texts_in inner.list
texts_inside (nodes.Special text) = text
texts_inside other = []

-- The number of bytes in these texts.
abbrev pub text_inside : Node → ℕ
text_inside (nodes.Box shift inner) = items_text inner.list
text_inside (nodes.Special text) = length text
text_inside other = 0
