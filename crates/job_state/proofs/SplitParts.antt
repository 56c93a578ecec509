-- The parts of a split box are sound if the box is.
use Rattle.std.proofs.Common.{◌≡◌, ◌≤◌, ◌+◌, ℕ, zero, suc, ℤ, Bool, true, false, List, [], ◌∷◌, drop, refl, arith}
use Rattle.std.specs.List.{AllByRecursion}
use Rattle.std.specs.Option.{option_map}
use Rattle.node_core.specs.declared.params.SplitParams.{SplitParams}
use Rattle.node_core.specs.declared.tree.Node.{Node}
use Rattle.node_core.specs.declared.tree.Node.TheVariants as nodes
use Rattle.node_core.specs.declared.tree.BoxNode.{BoxNode}
use Rattle.node_core.specs.Items as leaves
use Rattle.node_core.specs.Items.{Leaf, Items, EachLeaf, items_depth}
use Rattle.node_core.specs.Nodes.{items_of, node_of, nodes_of, box_depth}
use Rattle.pack_core.specs.declared.pack.PackedBox as packs
use Rattle.pack_core.specs.Boxes.{vbox}
use Rattle.vert_core.specs.Places.{is_box_or_rule}
use Rattle.vert_core.specs.Split.{from_box_or_rule, is_special, specials_above, split_place, from_first_box, left_of, items_after, packed_rest, front_of, rest_of}
use Rattle.node_core.specs.declared.limits.TheConstants.{MAX_DEPTH}
use Rattle.scaled_core.proofs.EachOf.{all_append, each_taken}
use Rattle.tfm_core.specs.Slots.{Slots}
use Rattle.job_state.specs.Private.Sized.{HasSizes, IsSizedLeaf, IsSoundBox, IsSizedHeld}

module _ {A : Type 0} (P : A → Type 0) where
  pub each_dropped : (n : ℕ) (xs : List A) → AllByRecursion P xs → AllByRecursion P (drop n xs)
  each_dropped zero xs all = all
  each_dropped (suc n) [] all = tt
  each_dropped (suc n) (x ∷ xs) all = each_dropped n xs all.1

-- An item that a sound box may contain: its glyphs have the sizes that their fonts give, and its depth is at least one less than the limit.
abbrev IsInner : Slots → Node → Type 0
IsInner fonts (nodes.Glyph g) = HasSizes fonts g
IsInner fonts (nodes.FontKern width) = Unit {0}
IsInner fonts (nodes.Kern width) = Unit {0}
IsInner fonts (nodes.Glue g) = Unit {0}
IsInner fonts (nodes.Penalty p) = Unit {0}
IsInner fonts (nodes.Rule sizes) = Unit {0}
IsInner fonts (nodes.Special text) = Unit {0}
IsInner fonts (nodes.Box shift b) = EachLeaf (IsSizedLeaf fonts) b.list × (box_depth b + 1 ≤ MAX_DEPTH)

abbrev pub AreInner : Slots → List Node → Type 0
AreInner fonts items = AllByRecursion (IsInner fonts) items

inner_leaf : (fonts : Slots) (x : Leaf) → IsSizedLeaf fonts x → IsInner fonts (node_of x)
inner_leaf fonts (leaves.glyph g) is = is
inner_leaf fonts (leaves.font_kern width) is = tt
inner_leaf fonts (leaves.kern width) is = tt
inner_leaf fonts (leaves.glue g) is = tt
inner_leaf fonts (leaves.penalty p) is = tt
inner_leaf fonts (leaves.rule sizes) is = tt
inner_leaf fonts (leaves.special text) is = tt

inner_items : (fonts : Slots) (items : Items) → EachLeaf (IsSizedLeaf fonts) items → items_depth items + 1 ≤ MAX_DEPTH → AreInner fonts (nodes_of items)
inner_items fonts leaves.none all shallow = tt
inner_items fonts (leaves.leaf x rest) all shallow = (inner_leaf fonts x all.0, inner_items fonts rest all.1 shallow)
inner_items fonts (leaves.box shift frame inner rest) all shallow =
    ((all.0, omega (arith, shallow)), inner_items fonts rest all.1 (omega (arith, shallow)))

-- The items of a sound box are such items.
pub inner_nodes : (fonts : Slots) (b : BoxNode) → IsSoundBox fonts b → AreInner fonts (nodes_of b.list)
inner_nodes fonts b sound = inner_items fonts b.list sound.glyphs sound.depth

-- The list of such items: its glyphs are sized, and a box of it is not too deep.
record IsSoundList (fonts : Slots) (items : Items) : Type 0 where
  glyphs : EachLeaf (IsSizedLeaf fonts) items
  depth : items_depth items + 1 ≤ MAX_DEPTH

sound_list : (fonts : Slots) (items : List Node) → AreInner fonts items → IsSoundList fonts (items_of items)
sound_list fonts [] all = record { glyphs = tt; depth = omega arith }
sound_list fonts ((nodes.Glyph g) ∷ rest) all =
    let more = sound_list fonts rest all.1 in
    record { glyphs = (all.0, more.glyphs); depth = more.depth }
sound_list fonts ((nodes.FontKern width) ∷ rest) all =
    let more = sound_list fonts rest all.1 in
    record { glyphs = (tt, more.glyphs); depth = more.depth }
sound_list fonts ((nodes.Kern width) ∷ rest) all =
    let more = sound_list fonts rest all.1 in
    record { glyphs = (tt, more.glyphs); depth = more.depth }
sound_list fonts ((nodes.Glue g) ∷ rest) all =
    let more = sound_list fonts rest all.1 in
    record { glyphs = (tt, more.glyphs); depth = more.depth }
sound_list fonts ((nodes.Penalty p) ∷ rest) all =
    let more = sound_list fonts rest all.1 in
    record { glyphs = (tt, more.glyphs); depth = more.depth }
sound_list fonts ((nodes.Rule sizes) ∷ rest) all =
    let more = sound_list fonts rest all.1 in
    record { glyphs = (tt, more.glyphs); depth = more.depth }
sound_list fonts ((nodes.Special text) ∷ rest) all =
    let more = sound_list fonts rest all.1 in
    record { glyphs = (tt, more.glyphs); depth = more.depth }
sound_list fonts ((nodes.Box shift b) ∷ rest) all =
    let more = sound_list fonts rest all.1 in
    record { glyphs = (all.0.0, more.glyphs); depth = omega (arith, all.0.1, more.depth) }

-- The front of a split is sound.
pub front_sound : (fonts : Slots) (params : SplitParams) (height : ℤ) (items : List Node) → AreInner fonts items → IsSoundBox fonts (front_of params height items).box_node
unfolding front_of vbox
front_sound fonts params height items all =
    let sound = sound_list fonts _ (each_taken (IsInner fonts) (split_place params height items) items all) in
    record { glyphs = sound.glyphs; depth = sound.depth }

from_by : (fonts : Slots) (x : Node) (xs : List Node) (first : Bool) → is_box_or_rule x ≡ first → AreInner fonts (x ∷ xs) → AreInner fonts (from_box_or_rule xs)
    → AreInner fonts (from_box_or_rule (x ∷ xs))
from_by fonts x xs true e all more = rw e all
from_by fonts x xs false e all more = rw e more

from_inner : (fonts : Slots) (items : List Node) → AreInner fonts items → AreInner fonts (from_box_or_rule items)
from_inner fonts [] all = tt
from_inner fonts (x ∷ xs) all = from_by fonts x xs (is_box_or_rule x) refl all (from_inner fonts xs all.1)

topped_inner : (fonts : Slots) (params : SplitParams) (items : List Node) → AreInner fonts items → AreInner fonts (from_first_box params items)
topped_inner fonts params [] all = tt
topped_inner fonts params (x ∷ xs) all = (tt, all)

above_by : (fonts : Slots) (x : Node) (xs : List Node) (first special : Bool) → is_box_or_rule x ≡ first → is_special x ≡ special → IsInner fonts x
    → AreInner fonts (specials_above xs) → AreInner fonts (specials_above (x ∷ xs))
above_by fonts x xs true special e f here more = rw e tt
above_by fonts x xs false true e f here more = rw (e, f) (here, more)
above_by fonts x xs false false e f here more = rw (e, f) more

specials_inner : (fonts : Slots) (items : List Node) → AreInner fonts items → AreInner fonts (specials_above items)
specials_inner fonts [] all = tt
specials_inner fonts (x ∷ xs) all = above_by fonts x xs (is_box_or_rule x) (is_special x) refl refl all.0 (specials_inner fonts xs all.1)

left_inner : (fonts : Slots) (params : SplitParams) (after : List Node) → AreInner fonts after → AreInner fonts (left_of params after)
left_inner fonts params after all =
    all_append (IsInner fonts) (specials_above after) (from_first_box params (from_box_or_rule after)) (specials_inner fonts after all)
    (topped_inner fonts params (from_box_or_rule after) (from_inner fonts after all))

packed_sound : (fonts : Slots) (items : List Node) → AreInner fonts items
    → IsSizedHeld fonts (option_map (λ (p : packs.PackedBox). p.box_node) (packed_rest items))
unfolding vbox
packed_sound fonts [] all = tt
packed_sound fonts (x ∷ xs) all =
    let sound = sound_list fonts (x ∷ xs) all in
    record { glyphs = sound.glyphs; depth = sound.depth }

-- The rest of a split is sound.
pub rest_sound : (fonts : Slots) (params : SplitParams) (height : ℤ) (items : List Node) → AreInner fonts items
    → IsSizedHeld fonts (option_map (λ (p : packs.PackedBox). p.box_node) (rest_of params height items))
unfolding rest_of
rest_sound fonts params height items all =
    packed_sound fonts (left_of params (items_after params height items))
    (left_inner fonts params (items_after params height items) (each_dropped (IsInner fonts) (split_place params height items) items all))
