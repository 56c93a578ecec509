-- The marks that a box makes on a page (TeX: The Program, part 32, §619 to §640; for specials part 53, §1368), and the numbers of a page that have
-- to fit (own: TeX tests only those of its box, §641). The values h and v are those of DVItype, 14: v grows down the page.
use Rattle.std.specs.Prelude.{◌+ℤ◌, ◌-ℤ◌, ◌&&◌, ℤ, pos, Bool, not, int_lt, if◌then◌else◌, List, [], ◌∷◌, ◌++◌}
use Rattle.std.specs.List.{list_all}
use Rattle.node_core.specs.declared.tree.Kind.{Kind}
use Rattle.node_core.specs.declared.tree.Kind.TheVariants.{Horizontal, Vertical}
use Rattle.node_core.specs.declared.tree.Node.{Node}
use Rattle.node_core.specs.declared.tree.Node.TheVariants as nodes
use Rattle.node_core.specs.declared.tree.Glyph.{Glyph}
use Rattle.node_core.specs.declared.tree.Rule.{Rule}
use Rattle.node_core.specs.declared.tree.RuleSize.{RuleSize}
use Rattle.node_core.specs.declared.tree.RuleSize.TheVariants.{Running, Fixed}
use Rattle.node_core.specs.declared.tree.BoxNode.{BoxNode}
use Rattle.node_core.specs.Items.{Leaf, glyph, font_kern, kern, glue, penalty, rule, special, Items, none, leaf, box}
use Rattle.node_core.specs.Nodes.{node_of, box_of}
use Rattle.scaled_core.specs.Mark as marks
use Rattle.scaled_core.specs.Mark.{Mark, MarkedPage}
use Rattle.pack_core.specs.Items.{own_size}
use Rattle.scaled_core.specs.Dimensions.{fits}
use Rattle.pack_core.specs.Places.{place}

-- A size of a rule in a box: a running one is that of the box (TeX: The Program, part 32, §624 and §633).
abbrev pub size_in : ℤ → RuleSize → ℤ
size_in whole Running = whole
size_in whole (Fixed size) = size

-- The value of v where the list of a box begins, whose reference point is at v: a horizontal list begins on the baseline, a vertical one at the top
-- of the box (TeX: The Program, part 32, §619 and §629).
abbrev pub list_v : Kind → (height v : ℤ) → ℤ
list_v Horizontal height v = v
list_v Vertical height v = v -ℤ height

-- The value of h at a place in a list that begins at h: only a horizontal list adds to it (TeX: The Program, part 32, §622 and §631).
abbrev pub right_at : Kind → (h place : ℤ) → ℤ
right_at Horizontal h place = h +ℤ place
right_at Vertical h place = h

-- The value of v at a place in a list that begins at v: only a vertical list adds to it (TeX: The Program, part 32, §622 and §631).
abbrev pub down_at : Kind → (v place : ℤ) → ℤ
down_at Horizontal v place = v
down_at Vertical v place = v +ℤ place

-- What is added to v at a rule to get v at its lower left corner: its depth in a horizontal list, its height plus depth in a vertical one (TeX: The
-- Program, part 32, §624 and §633).
abbrev pub rule_below : Kind → BoxNode → Rule → ℤ
rule_below Horizontal b r = size_in b.depth r.depth
rule_below Vertical b r = own_size r.height +ℤ own_size r.depth

-- The height plus depth of a rule in a list (TeX: The Program, part 32, §624 and §633).
abbrev pub rule_tall : Kind → BoxNode → Rule → ℤ
rule_tall Horizontal b r = size_in b.height r.height +ℤ size_in b.depth r.depth
rule_tall Vertical b r = own_size r.height +ℤ own_size r.depth

-- The width of a rule in a list (TeX: The Program, part 32, §624 and §633).
abbrev pub rule_wide : Kind → BoxNode → Rule → ℤ
rule_wide Horizontal b r = own_size r.width
rule_wide Vertical b r = size_in b.width r.width

-- A rule with its lower left corner at (h, v), as a list of one mark; it makes no mark where its height or its width is not positive (TeX: The
-- Program, part 32, §624 and §633).
abbrev pub rule_mark : (h v height width : ℤ) → List Mark
rule_mark h v height width = if int_lt (pos 0) height && int_lt (pos 0) width then marks.Rule h v height width ∷ [] else []

-- A glyph at a place in a horizontal list; a vertical list has none (TeX: The Program, part 32, §620).
abbrev pub glyph_mark : Kind → (h v : ℤ) → Glyph → List Mark
glyph_mark Horizontal h v g = marks.Glyph (pos g.slot) (pos g.code) h v ∷ []
glyph_mark Vertical h v g = []

-- The mark of an item at (h, v) in the list of a box (TeX: The Program, part 32, §620, §622 and §631; part 53, §1368, for specials).
abbrev pub marks_of_item : BoxNode → (h v : ℤ) → Leaf → List Mark
marks_of_item b h v (glyph g) = glyph_mark b.kind h v g
marks_of_item b h v (font_kern width) = []
marks_of_item b h v (kern width) = []
marks_of_item b h v (glue g) = []
marks_of_item b h v (penalty p) = []
marks_of_item b h v (special text) = marks.Special h v text ∷ []
marks_of_item b h v (rule sizes) = rule_mark h (v +ℤ rule_below b.kind b sizes) (rule_tall b.kind b sizes) (rule_wide b.kind b sizes)

-- The value of h at the item after the items `before`, in a list that begins at h (TeX: The Program, part 32, §622 and §631).
abbrev pub item_h : BoxNode → (h : ℤ) → (before : List Node) → ℤ
item_h b h before = right_at b.kind h (place b.kind b.setting before)

-- The value of v at the item after the items `before`, in a list that begins at v (TeX: The Program, part 32, §622 and §631).
abbrev pub item_v : BoxNode → (v : ℤ) → (before : List Node) → ℤ
item_v b v before = down_at b.kind v (place b.kind b.setting before)

-- The value of h at the reference point of a box whose item is at h: in a vertical list the shift is added (TeX: The Program, part 32, §623 and
-- §632).
abbrev pub box_h : Kind → (h shift : ℤ) → ℤ
box_h Horizontal h shift = h
box_h Vertical h shift = h +ℤ shift

-- The value of v at the reference point of a box whose item is at v: in a horizontal list the shift is added, in a vertical one the height (TeX: The
-- Program, part 32, §623 and §632).
abbrev pub box_v : Kind → (v shift height : ℤ) → ℤ
box_v Horizontal v shift height = v +ℤ shift
box_v Vertical v shift height = v +ℤ height

-- The marks of the items `after`, which follow the items `before` in the list of the box; the list begins at (h, v).
abbrev pub marks_after : BoxNode → (h v : ℤ) → (before : List Node) → (after : Items) → List Mark
marks_after b h v before none = []
marks_after b h v before (leaf x after) =
    marks_of_item b (item_h b h before) (item_v b v before) x ++ marks_after b h v (before ++ node_of x ∷ []) after
marks_after b h v before (box shift frame inner after) =
    marks_after (box_of frame inner) (box_h b.kind (item_h b h before) shift)
    (list_v frame.kind frame.height (box_v b.kind (item_v b v before) shift frame.height)) [] inner
    ++ marks_after b h v (before ++ nodes.Box shift (box_of frame inner) ∷ []) after

-- The marks of a box with the reference point (h, v). They are a recursion over the tree of the box.
unfoldable pub marks_of_box : BoxNode → (h v : ℤ) → List Mark
marks_of_box b h v = marks_after b h (list_v b.kind b.height v) [] b.list

-- The numbers of an item at (h, v), where the next item is at (next_h, next_v): the two places; for a rule also its corner and its sizes; for a box
-- also its reference point (own).
abbrev pub points_and_sizes : BoxNode → (h v next_h next_v : ℤ) → Node → List ℤ
points_and_sizes b h v next_h next_v (nodes.Rule sizes) =
    h ∷ v ∷ next_h ∷ next_v ∷ (v +ℤ rule_below b.kind b sizes) ∷ rule_tall b.kind b sizes ∷ rule_wide b.kind b sizes ∷ []
points_and_sizes b h v next_h next_v (nodes.Box shift inner) =
    h ∷ v ∷ next_h ∷ next_v ∷ box_h b.kind h shift ∷ box_v b.kind v shift inner.height ∷ []
points_and_sizes b h v next_h next_v other = h ∷ v ∷ next_h ∷ next_v ∷ []

-- The numbers of the item x after the items `before`, in a list that begins at (h, v), without those of its own items (own).
abbrev pub numbers_at : BoxNode → (h v : ℤ) → (before : List Node) → Node → List ℤ
numbers_at b h v before x =
    points_and_sizes b (item_h b h before) (item_v b v before) (item_h b h (before ++ x ∷ [])) (item_v b v (before ++ x ∷ [])) x

-- The numbers of the items `after`, which follow the items `before` in the list of the box, and of the items of inner boxes (own).
abbrev pub numbers_after : BoxNode → (h v : ℤ) → (before : List Node) → (after : Items) → List ℤ
numbers_after b h v before none = []
numbers_after b h v before (leaf x after) = numbers_at b h v before (node_of x) ++ numbers_after b h v (before ++ node_of x ∷ []) after
numbers_after b h v before (box shift frame inner after) =
    numbers_at b h v before (nodes.Box shift (box_of frame inner))
    ++ (numbers_after (box_of frame inner) (box_h b.kind (item_h b h before) shift)
    (list_v frame.kind frame.height (box_v b.kind (item_v b v before) shift frame.height)) [] inner
    ++ numbers_after b h v (before ++ nodes.Box shift (box_of frame inner) ∷ []) after)

-- A page: its ten counts, and a box with its reference point.
pub record ShippedPage : Type 0 where
  pub counts : List ℤ
  pub box_node : BoxNode
  pub h : ℤ
  pub v : ℤ

-- The marks of a page.
abbrev pub marks_of_page : ShippedPage → List Mark
marks_of_page page = marks_of_box page.box_node page.h page.v

-- A page as a reader sees it: its ten counts, and the marks of its box at its reference point, in order.
abbrev pub read_page : ShippedPage → MarkedPage
read_page page = record { counts = page.counts; marks = marks_of_page page }

-- The start of the list of a page's box, below the origin.
abbrev pub page_v : ShippedPage → ℤ
page_v page = list_v page.box_node.kind page.box_node.height page.v

-- The numbers of a page that have to fit: its bottom, its right edge, and those of its items, inner boxes included (own).
abbrev pub numbers_of_page : ShippedPage → List ℤ
numbers_of_page page =
    (page.v +ℤ page.box_node.depth) ∷ (page.h +ℤ page.box_node.width) ∷ numbers_after page.box_node page.h (page_v page) [] page.box_node.list

-- Whether a page is huge: one of those numbers does not fit (own). The reference point is not among them, so that it may be wider than a dimension.
unfoldable pub is_huge : ShippedPage → Bool
is_huge page = not (list_all fits (numbers_of_page page))
