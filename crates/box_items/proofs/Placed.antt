-- The places of rows.
use Rattle.std.proofs.Common.{◌≡◌, ◌∙◌, ℕ, ℤ, pos, ◌+ℤ◌, List, ap, ap₂, sym, arith, refl, true}
use Rattle.std.specs.Int.{int_wrap, w128}
use Rattle.std.proofs.lemmas.Int.{int_wrap-add_right, ints}
use Rattle.node_core.specs.declared.tree.BoxNode.{BoxNode}
use Rattle.node_core.specs.declared.tree.Kind.{Kind}
use Rattle.node_core.specs.declared.tree.Kind.TheVariants.{Horizontal, Vertical}
use Rattle.node_core.specs.declared.tree.Node.{Node}
use Rattle.node_core.specs.declared.tree.Node.TheVariants as nodes
use Rattle.node_core.specs.declared.tree.Glue.{Glue}
use Rattle.node_core.specs.declared.tree.Setting.{Setting}
use Rattle.pack_core.specs.Cursors.{WalkSums, moved_on, place_at}
use Rattle.page_core.specs.Private.Placing.{is_rigid}
use Rattle.pack_core.specs.Places.{place}
use Rattle.node_core.specs.Nodes.{frame_of}
use Rattle.std.specs.Prelude.{neg_ℤ, ◌-ℤ◌, ◌+◌}
use Rattle.page_core.specs.Marks.{down_at, item_h, item_v, list_v, right_at}
use Rattle.box_items.specs.Rows.{ItemPlace, list_place, origin, place_after}
use Rattle.box_items.specs.Private.Written.{IsPlace, moved_by}
use Rattle.box_items.specs.declared.place.RowPlace.{RowPlace}

-- A place that is known modulo 2^128.
same_place : (coded : RowPlace) (level text : ℕ) (h v right down : ℤ) → int_wrap w128 h ≡ int_wrap w128 right → int_wrap w128 v ≡ int_wrap w128 down
    → IsPlace coded (record { level = level; h = h; v = v; text = text }) → IsPlace coded (record { level = level; h = right; v = down; text = text })
same_place coded level text h v right down across below is = record { level = is.level; h = is.h ∙ across; v = is.v ∙ below; text = is.text }

moved_none : (z : ℤ) → z +ℤ pos 0 ≡ z
moved_none z = omega (arith, ints)

wrapped_sum : (z distance far : ℤ) → distance ≡ int_wrap w128 far → int_wrap w128 (z +ℤ distance) ≡ int_wrap w128 (z +ℤ far)
wrapped_sum z distance far is = ap (λ (d : ℤ). int_wrap w128 (z +ℤ d)) is ∙ int_wrap-add_right w128 z far

-- The place of an item at a distance from the start of its list.
pub after_across :
    (b : BoxNode) (from : ItemPlace) (before : List Node) (distance : ℤ) (text : ℕ) (moved result : RowPlace) → b.kind ≡ Horizontal
    → distance ≡ int_wrap w128 (place b.kind b.setting before) → IsPlace moved (moved_by from distance (pos 0))
    → ((exact : ItemPlace) → IsPlace moved exact → IsPlace result (record exact { text = text }))
    → IsPlace result (record (place_after b from before) { text = text })
after_across b from before distance text moved result kind far is with =
    same_place result from.level text (from.h +ℤ distance) (from.v +ℤ pos 0) (item_h b from.h before) (item_v b from.v before)
    (wrapped_sum from.h distance (place b.kind b.setting before) far ∙ ap (λ (k : Kind). int_wrap w128 (right_at k from.h (place b.kind b.setting before))) (sym kind))
    (ap (int_wrap w128) (moved_none from.v ∙ ap (λ (k : Kind). down_at k from.v (place b.kind b.setting before)) (sym kind)))
    (with (moved_by from distance (pos 0)) is)

pub after_down :
    (b : BoxNode) (from : ItemPlace) (before : List Node) (distance : ℤ) (text : ℕ) (moved result : RowPlace) → b.kind ≡ Vertical
    → distance ≡ int_wrap w128 (place b.kind b.setting before) → IsPlace moved (moved_by from (pos 0) distance)
    → ((exact : ItemPlace) → IsPlace moved exact → IsPlace result (record exact { text = text }))
    → IsPlace result (record (place_after b from before) { text = text })
after_down b from before distance text moved result kind far is with =
    same_place result from.level text (from.h +ℤ pos 0) (from.v +ℤ distance) (item_h b from.h before) (item_v b from.v before)
    (ap (int_wrap w128) (moved_none from.h ∙ ap (λ (k : Kind). right_at k from.h (place b.kind b.setting before)) (sym kind)))
    (wrapped_sum from.v distance (place b.kind b.setting before) far ∙ ap (λ (k : Kind). int_wrap w128 (down_at k from.v (place b.kind b.setting before))) (sym kind))
    (with (moved_by from (pos 0) distance) is)

-- The place of the corner of a rule.
pub corner : (at : ItemPlace) (x y : ℤ) → x ≡ y → moved_by at (pos 0) x ≡ record at { v = at.v +ℤ y }
corner at x y is = ap₂ (λ (h v : ℤ). record at { h = h; v = v }) (moved_none at.h) (ap (λ (z : ℤ). at.v +ℤ z) is)

-- An item other than glue is independent of the glue setting.
pub rigid : (x : Node) → ((g : Glue) → x ≡ nodes.Glue g → ⊥) → is_rigid x ≡ true
rigid (nodes.Glue g) other = absurd (other g refl)
rigid (nodes.Glyph g) other = refl
rigid (nodes.FontKern w) other = refl
rigid (nodes.Kern w) other = refl
rigid (nodes.Penalty n) other = refl
rigid (nodes.Special text) other = refl
rigid (nodes.Rule r) other = refl
rigid (nodes.Box shift b) other = refl

-- The place after an item that is independent of it.
pub further : (setting : Setting) (from : WalkSums) (distance : ℤ) → place_at setting from +ℤ distance ≡ place_at setting (moved_on from distance)
further setting from distance = omega (arith, ints)

-- Where the list of a vbox begins, whose reference point is at a place.
pub under :
    (b : BoxNode) (at : ItemPlace) (down : ℤ) (moved result : RowPlace) → b.kind ≡ Vertical → IsPlace moved (moved_by at (pos 0) down)
    → ((exact : ItemPlace) → IsPlace moved exact → IsPlace result (record exact { level = exact.level + 1 })) → down ≡ neg_ℤ b.height
    → IsPlace result (list_place (frame_of b) at)
under b at down moved result kind is deeper amount =
    let up : at.v +ℤ down ≡ at.v -ℤ b.height = ap (λ (z : ℤ). at.v +ℤ z) amount in
    same_place result (at.level + 1) at.text (at.h +ℤ pos 0) (at.v +ℤ down) at.h (list_v b.kind b.height at.v) (ap (int_wrap w128) (moved_none at.h))
    (ap (int_wrap w128) (up ∙ ap (λ (k : Kind). list_v k b.height at.v) (sym kind))) (deeper (moved_by at (pos 0) down) is)

-- The reference point of the outermost box.
pub at_origin : IsPlace (record { level = 0; h = pos 0; v = pos 0; text = 0 }) origin
unfolding int_wrap
at_origin = record { level = refl; h = refl; v = refl; text = refl }
