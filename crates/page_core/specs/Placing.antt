-- The placing of the items of a box, one by one (own).
use Rattle.std.specs.Prelude.{◌≡◌, ◌+ℤ◌, ◌&&◌, ℤ, pos, if◌then◌else◌, Option, Some, None}
use Rattle.node_core.specs.declared.tree.Kind.{Kind}
use Rattle.node_core.specs.declared.tree.Node.{Node}
use Rattle.node_core.specs.declared.tree.BoxNode.{BoxNode}
use Rattle.node_core.specs.declared.tree.Node.TheVariants as nodes
use Rattle.node_core.specs.Items as items
use Rattle.scaled_core.specs.Mark as body
use Rattle.scaled_core.specs.Mark.{Mark}
use Rattle.pack_core.specs.Items.{own_size}
use Rattle.scaled_core.specs.Dimensions.{fits}
use Rattle.page_core.specs.Marks.{right_at, box_h, box_v, marks_of_item}
use Rattle.page_core.specs.declared.placing.Point.{Point}
use Rattle.page_core.specs.declared.placing.MarkKind.{MarkKind}
use Rattle.page_core.specs.declared.placing.MarkKind.TheVariants as mark_kind
use Rattle.page_core.specs.declared.placing.PlacedMark.{PlacedMark}
use Rattle.page_core.specs.DrawnPages.{DrawnPage, marked, width_in, in_front, after_rule}

-- A point of a page, where both numbers fit.
abbrev pub fitting_point : (h v : ℤ) → Option (Point ℤ)
fitting_point h v = if fits h && fits v then Some (record { h = h; v = v }) else None

-- The mark of a kind at a place, with that width.
abbrev pub mark_with : (h v width : ℤ) → MarkKind → Mark
mark_with h v width (mark_kind.Rule height) = body.Rule h v height width
mark_with h v width (mark_kind.Glyph slot code) = body.Glyph (pos slot) (pos code) h v

-- A mark, if there is one, before what is drawn after.
abbrev pub marked_in : Option PlacedMark → DrawnPage → DrawnPage
marked_in None rest = rest
marked_in (Some m) rest = marked (mark_with m.h m.v m.width m.mark_kind) m.width rest

-- The value of h after a mark of that width.
abbrev pub h_after_mark : Kind → (h width : ℤ) → MarkKind → ℤ
h_after_mark kind h width (mark_kind.Rule height) = after_rule kind h width
h_after_mark kind h width (mark_kind.Glyph slot code) = h +ℤ width

-- The end of a mark is the value of h after it.
abbrev pub IsMarkEnd : Kind → PlacedMark → Type 0
IsMarkEnd kind m = m.end ≡ h_after_mark kind m.h m.width m.mark_kind

-- The item after a glyph or a rule is where h is after it, since no glue is between them.
abbrev pub Reaches : Kind → (h next_h : ℤ) → Node → Type 0
Reaches kind h next_h (nodes.Glyph glyph) = next_h ≡ right_at kind h glyph.width
Reaches kind h next_h (nodes.FontKern width) = Unit {0}
Reaches kind h next_h (nodes.Kern width) = Unit {0}
Reaches kind h next_h (nodes.Glue glue) = Unit {0}
Reaches kind h next_h (nodes.Penalty penalty) = Unit {0}
Reaches kind h next_h (nodes.Special text) = Unit {0}
Reaches kind h next_h (nodes.Rule rule) = next_h ≡ right_at kind h (own_size rule.width)
Reaches kind h next_h (nodes.Box shift b) = Unit {0}

-- The marks of an item at (h, v), before what is drawn after. Specials and the items of a box are left out.
abbrev pub marked_of : BoxNode → (h v : ℤ) → Node → DrawnPage → DrawnPage
marked_of b h v (nodes.Glyph g) rest = in_front (marks_of_item b h v (items.glyph g)) (width_in b (items.glyph g)) rest
marked_of b h v (nodes.Rule sizes) rest = in_front (marks_of_item b h v (items.rule sizes)) (width_in b (items.rule sizes)) rest
marked_of b h v other rest = rest

-- The distance to the right of the reference point of a box at h; for another item, its place.
abbrev pub reference_h : Kind → (h : ℤ) → Node → ℤ
reference_h kind h (nodes.Box shift inner) = box_h kind h shift
reference_h kind h other = h

-- The distance down of the reference point of a box at v; for another item, its place.
abbrev pub reference_v : Kind → (v : ℤ) → Node → ℤ
reference_v kind v (nodes.Box shift inner) = box_v kind v shift inner.height
reference_v kind v other = v
