-- A drawn page: its marks, with the groups of its boxes (own).
use Rattle.std.specs.Prelude.{◌+ℤ◌, ℤ, pos, List, [], ◌∷◌, ◌++◌}
use Rattle.node_core.specs.declared.tree.Kind.{Kind}
use Rattle.node_core.specs.declared.tree.Kind.TheVariants.{Horizontal, Vertical}
use Rattle.node_core.specs.declared.tree.Node.{Node}
use Rattle.node_core.specs.declared.tree.Node.TheVariants.{Box}
use Rattle.node_core.specs.declared.tree.BoxNode.{BoxNode}
use Rattle.node_core.specs.Items.{Leaf, glyph, font_kern, kern, glue, penalty, rule, special, Items, none, leaf, box}
use Rattle.node_core.specs.Nodes.{node_of, box_of}
use Rattle.scaled_core.specs.Mark.{Mark}
use Rattle.page_core.specs.Marks.{ShippedPage, rule_wide, marks_of_item, item_h, item_v, box_h, box_v, list_v, page_v}

-- The width of an item's mark.
abbrev pub width_in : BoxNode → Leaf → ℤ
width_in b (glyph g) = g.width
width_in b (font_kern width) = pos 0
width_in b (kern width) = pos 0
width_in b (glue g) = pos 0
width_in b (penalty p) = pos 0
width_in b (special text) = pos 0
width_in b (rule sizes) = rule_wide b.kind b sizes

-- A drawn page, or the drawn items of a list: marks, each with its width, and groups, which are the drawn boxes, each with the kind of its list. A
-- list of
-- marks does not show where groups begin, and a tree does not show where marks are.
pub data DrawnPage : Type 0 where
  blank : DrawnPage
  marked : Mark → (width : ℤ) → DrawnPage → DrawnPage
  group : Kind → DrawnPage → DrawnPage → DrawnPage

-- Marks of that width, before what is drawn after.
abbrev pub in_front : List Mark → (width : ℤ) → DrawnPage → DrawnPage
in_front [] width rest = rest
in_front (mark ∷ marks) width rest = marked mark width (in_front marks width rest)

-- A drawn box before what is drawn after it. A box without items makes no group.
abbrev pub grouped_page : Items → Kind → DrawnPage → DrawnPage → DrawnPage
grouped_page none kind inner rest = rest
grouped_page (leaf x items) kind inner rest = group kind inner rest
grouped_page (box shift frame more items) kind inner rest = group kind inner rest

-- The drawn items `after`, which follow the items `before` in the list of the box; the list begins at (h, v).
abbrev pub drawn_after : BoxNode → (h v : ℤ) → (before : List Node) → (after : Items) → DrawnPage
drawn_after b h v before none = blank
drawn_after b h v before (leaf x after) =
    in_front (marks_of_item b (item_h b h before) (item_v b v before) x) (width_in b x) (drawn_after b h v (before ++ node_of x ∷ []) after)
drawn_after b h v before (box shift frame inner after) =
    grouped_page inner frame.kind
    (drawn_after (box_of frame inner) (box_h b.kind (item_h b h before) shift)
    (list_v frame.kind frame.height (box_v b.kind (item_v b v before) shift frame.height)) [] inner)
    (drawn_after b h v (before ++ Box shift (box_of frame inner) ∷ []) after)

-- The value of h after a rule of that width: larger by the width in a horizontal list, the same in a vertical one.
abbrev pub after_rule : Kind → (h width : ℤ) → ℤ
after_rule Horizontal h width = h +ℤ width
after_rule Vertical h width = h

-- The drawn page.
abbrev pub drawn_page_of : ShippedPage → DrawnPage
drawn_page_of page = drawn_after page.box_node page.h (page_v page) [] page.box_node.list
