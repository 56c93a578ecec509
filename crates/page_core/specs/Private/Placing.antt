-- The rest of `Placing`, which no public contract reaches (own).
use Rattle.std.specs.Prelude.{ℕ, ℤ, Bool, true, false, List, take, drop, Option}
use Rattle.node_core.specs.declared.tree.Node.{Node}
use Rattle.node_core.specs.declared.tree.BoxNode.{BoxNode}
use Rattle.node_core.specs.declared.tree.Node.TheVariants as nodes
use Rattle.node_core.specs.Nodes.{items_of}
use Rattle.page_core.specs.Marks.{right_at, down_at, points_and_sizes, numbers_after}
use Rattle.page_core.specs.declared.placing.Point.{Point}
use Rattle.page_core.specs.DrawnPages.{DrawnPage, drawn_after}
use Rattle.page_core.specs.Placing.{fitting_point, marked_of}

-- Whether an item is independent of the glue setting: every item but glue.
abbrev pub is_rigid : Node → Bool
is_rigid (nodes.Glue glue) = false
is_rigid (nodes.Glyph glyph) = true
is_rigid (nodes.FontKern width) = true
is_rigid (nodes.Kern width) = true
is_rigid (nodes.Penalty penalty) = true
is_rigid (nodes.Special text) = true
is_rigid (nodes.Rule rule) = true
is_rigid (nodes.Box shift b) = true

-- The point at a place of the list of a box, which begins at (h, v), where both of its numbers fit.
abbrev pub point_in : BoxNode → (h v place : ℤ) → Option (Point ℤ)
point_in b h v place = fitting_point (right_at b.kind h place) (down_at b.kind v place)

-- A point of that height, from the value of h.
abbrev pub level_with : (v h : ℤ) → Point ℤ
level_with v h = record { h = h; v = v }

-- Whether an item has no mark, and no numbers but its places.
abbrev pub is_blank : Node → Bool
is_blank (nodes.Glyph glyph) = false
is_blank (nodes.FontKern width) = true
is_blank (nodes.Kern width) = true
is_blank (nodes.Glue glue) = true
is_blank (nodes.Penalty penalty) = true
is_blank (nodes.Special text) = false
is_blank (nodes.Rule rule) = false
is_blank (nodes.Box shift b) = false

-- The numbers of an item between two places of the list.
abbrev pub numbers_between : BoxNode → (h v place next : ℤ) → Node → List ℤ
numbers_between b h v place next x =
    points_and_sizes b (right_at b.kind h place) (down_at b.kind v place) (right_at b.kind h next) (down_at b.kind v next) x

-- The marks of an item at a place of the list, before what is drawn after.
abbrev pub marked_at : BoxNode → (h v place : ℤ) → Node → DrawnPage → DrawnPage
marked_at b h v place x rest = marked_of b (right_at b.kind h place) (down_at b.kind v place) x rest

-- The drawn items of a list from item i on; the list begins at (h, v).
abbrev pub drawn_left : BoxNode → (h v : ℤ) → List Node → (i : ℕ) → DrawnPage
drawn_left b h v xs i = drawn_after b h v (take i xs) (items_of (drop i xs))

-- The numbers of these items.
abbrev pub numbers_left : BoxNode → (h v : ℤ) → List Node → (i : ℕ) → List ℤ
numbers_left b h v xs i = numbers_after b h v (take i xs) (items_of (drop i xs))
