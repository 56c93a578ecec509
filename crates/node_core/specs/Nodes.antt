-- Lists of nodes and the items that are their value in contracts (own).
use Rattle.std.specs.Prelude.{◌≡◌, ℕ, false, ◌+◌, ◌-◌, List, [], ◌∷◌, length, take, slice_get, Option, None, Some}
use Rattle.std.specs.List.{list_any}
use Rattle.node_core.specs.declared.tree.Node.{Node}
use Rattle.node_core.specs.declared.tree.Node.TheVariants.{Glyph, FontKern, Kern, Glue, Penalty, Rule, Special, Box}
use Rattle.node_core.specs.declared.tree.BoxNode.{BoxNode}
use Rattle.node_core.specs.Classes.{has_content}
use Rattle.node_core.specs.Items.{Leaf, glyph, font_kern, kern, glue, penalty, rule, special, BoxFrame, Items, none, leaf, box, items_depth}
use Rattle.node_core.specs.Items.{items_count, items_text}

-- The greatest number of nodes in a list (own).
abbrev pub max_nodes : ℕ
max_nodes = 131072

-- No item of a list is a box or a special (own).
abbrev pub IsPlain : List Node → Type 0
IsPlain nodes = list_any has_content nodes ≡ false

-- A box without its list (own).
abbrev pub frame_of : BoxNode → BoxFrame
frame_of b = record { kind = b.kind; width = b.width; height = b.height; depth = b.depth; setting = b.setting }

-- The box with this frame and this list (own).
abbrev pub box_of : BoxFrame → Items → BoxNode
box_of frame items =
    record { kind = frame.kind; width = frame.width; height = frame.height; depth = frame.depth; setting = frame.setting; list = items }

-- The items of a list of nodes (own).
abbrev pub items_of : List Node → Items
items_of [] = none
items_of ((Glyph g) ∷ rest) = leaf (glyph g) (items_of rest)
items_of ((FontKern width) ∷ rest) = leaf (font_kern width) (items_of rest)
items_of ((Kern width) ∷ rest) = leaf (kern width) (items_of rest)
items_of ((Glue g) ∷ rest) = leaf (glue g) (items_of rest)
items_of ((Penalty p) ∷ rest) = leaf (penalty p) (items_of rest)
items_of ((Rule sizes) ∷ rest) = leaf (rule sizes) (items_of rest)
items_of ((Special text) ∷ rest) = leaf (special text) (items_of rest)
items_of ((Box shift b) ∷ rest) = box shift (frame_of b) b.list (items_of rest)

-- The node of a leaf (own).
abbrev pub node_of : Leaf → Node
node_of (glyph g) = Glyph g
node_of (font_kern width) = FontKern width
node_of (kern width) = Kern width
node_of (glue g) = Glue g
node_of (penalty p) = Penalty p
node_of (rule sizes) = Rule sizes
node_of (special text) = Special text

-- The nodes of some items (own).
abbrev pub nodes_of : Items → List Node
nodes_of none = []
nodes_of (leaf x rest) = node_of x ∷ nodes_of rest
nodes_of (box shift frame inner rest) = Box shift (box_of frame inner) ∷ nodes_of rest

-- The depth of a box: 1 if there is no box in it (own).
abbrev pub box_depth : BoxNode → ℕ
box_depth b = items_depth b.list + 1

-- The count of a box: itself and every item in it (own).
abbrev pub box_count : BoxNode → ℕ
box_count b = items_count b.list + 1

-- The number of bytes in the texts of the specials in a box (own).
abbrev pub box_text : BoxNode → ℕ
box_text b = items_text b.list

-- The box of a node, if the node is a box (own).
abbrev pub box_in : Node → Option BoxNode
box_in (Glyph g) = None
box_in (FontKern width) = None
box_in (Kern width) = None
box_in (Glue g) = None
box_in (Penalty p) = None
box_in (Rule sizes) = None
box_in (Special text) = None
box_in (Box shift b) = Some b

-- The box of a node, if there is a node and it is a box (own).
abbrev pub box_at : Option Node → Option BoxNode
box_at None = None
box_at (Some x) = box_in x

-- The last node of a list, if it is a box (own).
abbrev pub last_box : List Node → Option BoxNode
last_box nodes = box_at (slice_get nodes (length nodes - 1))

-- The list without the box at its end, if there is one there (own).
abbrev pub without_last_box : Option BoxNode → List Node → List Node
without_last_box None nodes = nodes
without_last_box (Some b) nodes = take (length nodes - 1) nodes
