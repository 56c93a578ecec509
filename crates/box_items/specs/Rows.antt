-- The items of a box as rows (after TeX: The Program, part 12, §182 and §184 to §197: a box, then its items, one level deeper; the numbers of a row
-- are own). Places are those of the marks of a page (part 32), from the reference point of the outermost box.
use Rattle.std.specs.Prelude.{◌+◌, ◌-◌, ◌/◌, ◌%◌, ◌^◌, ◌+ℤ◌, ◌-ℤ◌, ℕ, ℤ, pos, List, [], ◌∷◌, ◌++◌, length, min}
use Rattle.std.specs.Int.{int_wrap, cast_signed, cast_unsigned, w64, w128}
use Rattle.scaled_core.specs.Fractions.{Fraction}
use Rattle.node_core.specs.declared.tree.Kind.{Kind}
use Rattle.node_core.specs.declared.tree.Kind.TheVariants.{Horizontal, Vertical}
use Rattle.node_core.specs.declared.tree.Node.{Node}
use Rattle.node_core.specs.declared.tree.Node.TheVariants as nodes
use Rattle.node_core.specs.declared.tree.Order.{Order}
use Rattle.node_core.specs.declared.tree.Order.TheVariants.{Normal, Fil, Fill, Filll}
use Rattle.node_core.specs.declared.tree.Setting.{Setting}
use Rattle.node_core.specs.declared.tree.Setting.TheVariants as settings
use Rattle.node_core.specs.declared.tree.Glyph.{Glyph}
use Rattle.node_core.specs.declared.tree.Glue.{Glue}
use Rattle.node_core.specs.declared.tree.Rule.{Rule}
use Rattle.node_core.specs.declared.tree.RuleSize.{RuleSize}
use Rattle.node_core.specs.declared.tree.RuleSize.TheVariants.{Running, Fixed}
use Rattle.node_core.specs.declared.tree.BoxNode.{BoxNode}
use Rattle.node_core.specs.Items.{Leaf, glyph, font_kern, kern, glue, penalty, rule, special, BoxFrame, Items, none, leaf, box}
use Rattle.node_core.specs.Items.{items_text, text_size_in}
use Rattle.node_core.specs.Nodes.{box_of, frame_of, node_of}
use Rattle.pack_core.specs.Items.{own_size}
use Rattle.pack_core.specs.Places.{place}
use Rattle.page_core.specs.Marks.{size_in, list_v, item_h, item_v, box_h, box_v, rule_below, rule_wide}
use Rattle.box_items.specs.declared.place.WideDimen.{WideDimen}
use Rattle.box_items.specs.declared.row.BoxItem.{BoxItem}
use Rattle.box_items.specs.declared.row.ItemKind.{ItemKind}
use Rattle.box_items.specs.declared.row.ItemKind.TheVariants as kinds

-- A number as two words: its 128 bits in two's complement, from 0 to 2^64 below and with the sign above. This is exact for numbers from -2^127 to
-- 2^127, as all places in boxes that fit into memory are; other numbers wrap around.
unfoldable pub wide_of : ℤ → WideDimen
wide_of z =
    record {
      low = cast_unsigned w128 (int_wrap w128 z) % 2 ^ 64;
      high = cast_signed w64 (cast_unsigned w128 (int_wrap w128 z) / 2 ^ 64);
    }

-- The number of a kind.
abbrev pub kind_number : ItemKind → ℕ
kind_number kinds.Glyph = 1
kind_number kinds.FontKern = 2
kind_number kinds.Kern = 3
kind_number kinds.Glue = 4
kind_number kinds.Penalty = 5
kind_number kinds.Rule = 6
kind_number kinds.Special = 7
kind_number kinds.Hbox = 8
kind_number kinds.Vbox = 9

-- The number of an order (TeX: The Program, part 10, §150).
abbrev pub order_number : Order → ℕ
order_number Normal = 0
order_number Fil = 1
order_number Fill = 2
order_number Filll = 3

-- The sign of a setting (TeX: The Program, part 10, §135).
abbrev pub setting_sign : Setting → ℕ
setting_sign settings.Natural = 0
setting_sign (settings.Stretch order ratio) = 1
setting_sign (settings.Shrink order ratio) = 2

-- The order of a setting.
abbrev pub setting_order : Setting → Order
setting_order settings.Natural = Normal
setting_order (settings.Stretch order ratio) = order
setting_order (settings.Shrink order ratio) = order

-- The ratio of a setting; 0 if all glue has its natural width.
abbrev pub setting_ratio : Setting → Fraction
setting_ratio settings.Natural = record { num = pos 0; den = pos 1 }
setting_ratio (settings.Stretch order ratio) = ratio
setting_ratio (settings.Shrink order ratio) = ratio

-- Where an item is: the number of boxes that contain it, its place (h, v) from the reference point of the outermost box, to the right and down, and
-- the number of bytes in the texts of the specials before it. The same of a list: where its first item is.
pub record ItemPlace : Type 0 where
  pub level : ℕ
  pub h : ℤ
  pub v : ℤ
  pub text : ℕ

-- A row of this kind at a place, with 0 for all else. A level above 2^32 - 1 is shown as this number.
abbrev pub empty_row : ItemKind → ItemPlace → BoxItem
empty_row kind at =
    record {
      level = min at.level (2 ^ 32 - 1);
      kind = kind_number kind;
      right = wide_of at.h;
      down = wide_of at.v;
      set_width = wide_of (pos 0);
      width = pos 0;
      height = pos 0;
      depth = pos 0;
      shift = pos 0;
      stretch = pos 0;
      stretch_order = 0;
      shrink = pos 0;
      shrink_order = 0;
      setting = 0;
      setting_order = 0;
      ratio_num = pos 0;
      ratio_den = pos 0;
      slot = 0;
      code = 0;
      penalty = pos 0;
      running = 0;
      text_start = 0;
      text_size = 0;
    }

-- A glyph at a place.
abbrev pub glyph_row : ItemPlace → Glyph → BoxItem
glyph_row at g = record (empty_row kinds.Glyph at) { width = g.width; height = g.height; depth = g.depth; slot = g.slot; code = g.code }

-- A kern of either kind at a place.
abbrev pub kern_row : ItemKind → ItemPlace → (width : ℤ) → BoxItem
kern_row kind at width = record (empty_row kind at) { width = width }

-- Glue at a place, from which the next item has the distance `set_width`.
abbrev pub glue_row : ItemPlace → (set_width : ℤ) → Glue → BoxItem
glue_row at set_width g =
    record (empty_row kinds.Glue at) {
      set_width = wide_of set_width;
      width = g.width;
      stretch = g.stretch;
      stretch_order = order_number g.stretch_order;
      shrink = g.shrink;
      shrink_order = order_number g.shrink_order;
    }

-- A penalty at a place.
abbrev pub penalty_row : ItemPlace → (number : ℤ) → BoxItem
penalty_row at number = record (empty_row kinds.Penalty at) { penalty = number }

-- The height of a rule in a list (TeX: The Program, part 32, §624 and §633).
abbrev pub rule_height : Kind → BoxNode → Rule → ℤ
rule_height Horizontal b r = size_in b.height r.height
rule_height Vertical b r = own_size r.height

-- The depth of a rule in a list (TeX: The Program, part 32, §624 and §633).
abbrev pub rule_depth : Kind → BoxNode → Rule → ℤ
rule_depth Horizontal b r = size_in b.depth r.depth
rule_depth Vertical b r = own_size r.depth

-- The number for a size of a rule if it runs, and otherwise 0.
abbrev pub if_running : (number : ℕ) → RuleSize → ℕ
if_running number Running = number
if_running number (Fixed size) = 0

-- A rule at a place in the list of a box: its row has the place of its lower left corner.
abbrev pub rule_row : BoxNode → ItemPlace → Rule → BoxItem
rule_row b at r =
    record (empty_row kinds.Rule (record at { v = at.v +ℤ rule_below b.kind b r })) {
      width = rule_wide b.kind b r;
      height = rule_height b.kind b r;
      depth = rule_depth b.kind b r;
      running = if_running 1 r.width + if_running 2 r.height + if_running 4 r.depth;
    }

-- A special at a place: its text comes after the texts before it.
abbrev pub special_row : ItemPlace → (text : List ℕ) → BoxItem
special_row at text = record (empty_row kinds.Special at) { text_start = at.text; text_size = length text }

-- The kind of a box.
abbrev pub box_kind : Kind → ItemKind
box_kind Horizontal = kinds.Hbox
box_kind Vertical = kinds.Vbox

-- A box whose reference point is at a place.
abbrev pub box_row : ItemPlace → (shift : ℤ) → BoxFrame → BoxItem
box_row at shift frame =
    record (empty_row (box_kind frame.kind) at) {
      width = frame.width;
      height = frame.height;
      depth = frame.depth;
      shift = shift;
      setting = setting_sign frame.setting;
      setting_order = order_number (setting_order frame.setting);
      ratio_num = (setting_ratio frame.setting).num;
      ratio_den = (setting_ratio frame.setting).den;
    }

-- An item at a place in the list of a box; `set_width` is its distance to the next one.
abbrev pub leaf_row : BoxNode → ItemPlace → (set_width : ℤ) → Leaf → BoxItem
leaf_row b at set_width (glyph g) = glyph_row at g
leaf_row b at set_width (font_kern width) = kern_row kinds.FontKern at width
leaf_row b at set_width (kern width) = kern_row kinds.Kern at width
leaf_row b at set_width (glue g) = glue_row at set_width g
leaf_row b at set_width (penalty p) = penalty_row at p
leaf_row b at set_width (rule r) = rule_row b at r
leaf_row b at set_width (special text) = special_row at text

-- The place of the item after the items `before`, in a list that begins at a place (TeX: The Program, part 32, §622 and §631).
abbrev pub place_after : BoxNode → ItemPlace → (before : List Node) → ItemPlace
place_after b from before = record from { h = item_h b from.h before; v = item_v b from.v before }

-- The reference point of a box whose item is at a place in a list of a kind (TeX: The Program, part 32, §623 and §632).
abbrev pub reference_point : Kind → ItemPlace → (shift : ℤ) → BoxFrame → ItemPlace
reference_point kind at shift frame = record at { h = box_h kind at.h shift; v = box_v kind at.v shift frame.height }

-- Where the list of a box begins, one level deeper, if the reference point of the box is at a place (TeX: The Program, part 32, §619 and §629).
abbrev pub list_place : BoxFrame → ItemPlace → ItemPlace
list_place frame at = record at { level = at.level + 1; v = list_v frame.kind frame.height at.v }

-- The same place, after more bytes of text.
abbrev pub with_text : ItemPlace → (size : ℕ) → ItemPlace
with_text at size = record at { text = at.text + size }

-- The distance from an item after the items `before` to the next one.
abbrev pub set_width_of : BoxNode → (before : List Node) → Node → ℤ
set_width_of b before node = place b.kind b.setting (before ++ node ∷ []) -ℤ place b.kind b.setting before

-- The rows of the items `after`, which follow the items `before` in the list of the box; the list begins at `from`.
abbrev pub rows_after : BoxNode → (from : ItemPlace) → (before : List Node) → (after : Items) → List BoxItem
rows_after b from before none = []
rows_after b from before (leaf x after) =
    leaf_row b (place_after b from before) (set_width_of b before (node_of x)) x
    ∷ rows_after b (with_text from (text_size_in x)) (before ++ node_of x ∷ []) after
rows_after b from before (box shift frame inner after) =
    box_row (reference_point b.kind (place_after b from before) shift frame) shift frame
    ∷ (rows_after (box_of frame inner) (list_place frame (reference_point b.kind (place_after b from before) shift frame)) [] inner
    ++ rows_after b (with_text from (items_text inner)) (before ++ nodes.Box shift (box_of frame inner) ∷ []) after)

-- The reference point of the outermost box.
abbrev pub origin : ItemPlace
origin = record { level = 0; h = pos 0; v = pos 0; text = 0 }

-- The rows of a box: its own, on level 0, and those of its items. They are a recursion over the tree of the box.
unfoldable pub rows_of_box : BoxNode → List BoxItem
rows_of_box b = box_row origin (pos 0) (frame_of b) ∷ rows_after b (list_place (frame_of b) origin) [] b.list

-- The text of an item, if it is a special.
abbrev pub text_in : Leaf → List ℕ
text_in (glyph g) = []
text_in (font_kern width) = []
text_in (kern width) = []
text_in (glue g) = []
text_in (penalty p) = []
text_in (rule r) = []
text_in (special text) = text

-- The texts of the specials in a list, one after the other, including those in its boxes.
abbrev pub texts_in : Items → List ℕ
texts_in none = []
texts_in (leaf x after) = text_in x ++ texts_in after
texts_in (box shift frame inner after) = texts_in inner ++ texts_in after
