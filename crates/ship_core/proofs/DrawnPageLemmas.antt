-- The drawn list: its marks, its drawn marks and their number, and the depth of its groups.
use Rattle.std.proofs.Common.{◌≡◌, ℕ, ◌+◌, ◌≤◌, max, List, [], ◌∷◌, ◌++◌, length, refl, ap, ◌∙◌, subst, arith}
use Rattle.std.specs.Prelude.{ℤ, pos, ◌+ℤ◌, Bool, true, false, ◌&&◌, if◌then◌else◌, int_lt}
use Rattle.std.specs.List.{AllByRecursion}
use Rattle.scaled_core.specs.Dimensions.{Within}
use Rattle.node_core.specs.declared.tree.Kind.{Kind}
use Rattle.node_core.specs.declared.tree.Kind.TheVariants.{Horizontal, Vertical}
use Rattle.node_core.specs.declared.tree.Glyph.{Glyph}
use Rattle.node_core.specs.declared.tree.Rule.{Rule}
use Rattle.node_core.specs.declared.tree.Node.{Node}
use Rattle.node_core.specs.declared.tree.Node.TheVariants as nodes
use Rattle.node_core.specs.declared.tree.Node.TheVariants.{Box}
use Rattle.node_core.specs.declared.tree.BoxNode.{BoxNode}
use Rattle.node_core.specs.Items.{Leaf, glyph, font_kern, kern, glue, penalty, rule, special, Items, none, leaf, box, EachLeaf, items_count, items_depth, text_size_in, items_text}
use Rattle.node_core.specs.Nodes.{node_of, box_of}
use Rattle.scaled_core.specs.Mark as body
use Rattle.dvi_ops.specs.Body.{Widths}
use Rattle.scaled_core.specs.Mark.{Mark}
use Rattle.scaled_core.proofs.EachOf.{all_front, all_back}
use Rattle.pack_core.specs.Items.{own_size}
use Rattle.page_core.specs.Marks.{right_at, rule_below, rule_tall, rule_wide, rule_mark, glyph_mark, marks_of_item, list_v, item_h, item_v, box_h, box_v, marks_after, numbers_at, numbers_after}
use Rattle.page_core.specs.DrawnPages.{DrawnPage, blank, marked, group, width_in, in_front, grouped_page, drawn_after, after_rule}
use Rattle.ship_core.specs.Shown.{HasWidth}
use Rattle.page_core.proofs.Places.{reach}
use Rattle.ship_core.proofs.DrawnMarks.{marks_in, groups, EachMark, IsDrawn}

-- The marks of the drawn list are those of the list.
marks-in_front : (marks : List Mark) (by : ℤ) (rest : DrawnPage) → marks_in (in_front marks by rest) ≡ marks ++ marks_in rest
marks-in_front [] by rest = refl
marks-in_front (mark ∷ marks) by rest = ap (λ more. mark ∷ more) (marks-in_front marks by rest)

marks-grouped :
    (c : BoxNode) (h v : ℤ) (own : Kind) (items : Items) (rest : DrawnPage)
    → marks_in (grouped_page items own (drawn_after c h v [] items) rest) ≡ marks_in (drawn_after c h v [] items) ++ marks_in rest
marks-grouped c h v own none rest = refl
marks-grouped c h v own (leaf x items) rest = refl
marks-grouped c h v own (box shift frame inner items) rest = refl

pub marks-to_draw : (b : BoxNode) (h v : ℤ) (before : List Node) (after : Items)
    → marks_in (drawn_after b h v before after) ≡ marks_after b h v before after
marks-to_draw b h v before none = refl
marks-to_draw b h v before (leaf x after) =
    let here = marks_of_item b (item_h b h before) (item_v b v before) x in
    marks-in_front here (width_in b x) (drawn_after b h v (before ++ node_of x ∷ []) after)
    ∙ ap (λ marks. here ++ marks) (marks-to_draw b h v (before ++ node_of x ∷ []) after)
marks-to_draw b h v before (box shift frame inner after) =
    let x = box_h b.kind (item_h b h before) shift in
    let y = list_v frame.kind frame.height (box_v b.kind (item_v b v before) shift frame.height) in
    let later = drawn_after b h v (before ++ Box shift (box_of frame inner) ∷ []) after in
    marks-grouped (box_of frame inner) x y frame.kind inner later
    ∙ (ap (λ marks. marks ++ marks_in later) (marks-to_draw (box_of frame inner) x y [] inner)
    ∙ ap (λ marks. marks_after (box_of frame inner) x y [] inner ++ marks)
    (marks-to_draw b h v (before ++ Box shift (box_of frame inner) ∷ []) after))

-- A property of a rule or a glyph of a box is one of its marks.
module _ (P : Mark → Type 0) where
  pub each_rule : (h v height width : ℤ) → P (body.Rule h v height width) → AllByRecursion P (rule_mark h v height width)
  each_rule h v height width here = by_test (int_lt (pos 0) height && int_lt (pos 0) width)
    where
      by_test : (seen : Bool) → AllByRecursion P (if seen then body.Rule h v height width ∷ [] else [])
      by_test true = (here, tt)
      by_test false = tt

  pub each_glyph : (kind : Kind) (h v : ℤ) (g : Glyph) → P (body.Glyph (pos g.slot) (pos g.code) h v) → AllByRecursion P (glyph_mark kind h v g)
  each_glyph Horizontal h v g here = (here, tt)
  each_glyph Vertical h v g here = tt

-- A property of drawn marks before what is drawn after, and of a drawn box.
module _ (P : Kind → Mark → (by : ℤ) → Type 0) where
  each_in_front :
      (kind : Kind) (marks : List Mark) (by : ℤ) (rest : DrawnPage) → AllByRecursion (λ mark. P kind mark by) marks → EachMark P kind rest
      → EachMark P kind (in_front marks by rest)
  each_in_front kind [] by rest all later = later
  each_in_front kind (mark ∷ marks) by rest (here, all) later = (here, each_in_front kind marks by rest all later)

  each_grouped :
      (kind own : Kind) (items : Items) (inner rest : DrawnPage) → EachMark P own inner → EachMark P kind rest
      → EachMark P kind (grouped_page items own inner rest)
  each_grouped kind own none inner rest within later = later
  each_grouped kind own (leaf x items) inner rest within later = (within, later)
  each_grouped kind own (box shift frame more items) inner rest within later = (within, later)

  -- A property of the drawn marks of each leaf of a list is one of all drawn marks.
  pub each_after :
      (Q : Leaf → Type 0) → ((b : BoxNode) (h v : ℤ) (x : Leaf) → Q x → AllByRecursion (λ mark. P b.kind mark (width_in b x)) (marks_of_item b h v x))
      → (b : BoxNode) (h v : ℤ) (before : List Node) (after : Items) → EachLeaf Q after → EachMark P b.kind (drawn_after b h v before after)
  each_after Q each b h v before none all = tt
  each_after Q each b h v before (leaf x after) (here, all) =
      each_in_front b.kind (marks_of_item b (item_h b h before) (item_v b v before) x) (width_in b x)
      (drawn_after b h v (before ++ node_of x ∷ []) after)
      (each b (item_h b h before) (item_v b v before) x here)
      (each_after Q each b h v (before ++ node_of x ∷ []) after all)
  each_after Q each b h v before (box shift frame inner after) (within, all) =
      each_grouped b.kind frame.kind inner _ _
      (each_after Q each (box_of frame inner) (box_h b.kind (item_h b h before) shift)
      (list_v frame.kind frame.height (box_v b.kind (item_v b v before) shift frame.height)) [] inner within)
      (each_after Q each b h v (before ++ Box shift (box_of frame inner) ∷ []) after all)

-- The value of h after a rule.
rule_end : (kind : Kind) (b : BoxNode) (h next_h : ℤ) (r : Rule) → next_h ≡ right_at kind h (own_size r.width) → next_h ≡ after_rule kind h (rule_wide kind b r)
rule_end Horizontal b h next_h r is = is
rule_end Vertical b h next_h r is = is

-- The drawn mark of a rule can be drawn where its numbers fit.
rule_drawn :
    (widths : Widths) (kind : Kind) (h v next_h height width : ℤ) → next_h ≡ after_rule kind h width → Within 1073741823 h → Within 1073741823 next_h
    → AllByRecursion (Within 1073741823) (v ∷ height ∷ width ∷ []) → AllByRecursion (λ mark. IsDrawn widths kind mark width) (rule_mark h v height width)
rule_drawn widths kind h v next_h height width edge left right (corner, (tall, (wide, all))) = by_test (int_lt (pos 0) height && int_lt (pos 0) width) refl
  where
    by_test : (seen : Bool) → (int_lt (pos 0) height && int_lt (pos 0) width) ≡ seen
        → AllByRecursion (λ mark. IsDrawn widths kind mark width) (if seen then body.Rule h v height width ∷ [] else [])
    by_test false is = tt
    by_test true is = (record { h = left; v = corner; end = subst (Within 1073741823) edge right; tall = tall; wide = wide; positive = is }, tt)

-- The drawn mark of a glyph.
glyph_drawn :
    (widths : Widths) (kind : Kind) (h v next_h : ℤ) (g : Glyph) → HasWidth widths (glyph g) → next_h ≡ right_at kind h g.width → Within 1073741823 h
    → Within 1073741823 v → Within 1073741823 next_h → AllByRecursion (λ mark. IsDrawn widths kind mark g.width) (glyph_mark kind h v g)
glyph_drawn widths Vertical h v next_h g wide edge left low right = tt
glyph_drawn widths Horizontal h v next_h g (wide, (slot, code)) edge left low right =
    (record { h = left; v = low; end = subst (Within 1073741823) edge right; wide = wide; font_byte = slot; code_byte = code }, tt)

-- The drawn mark of a leaf can be drawn where its numbers fit.
leaf_drawn :
    (widths : Widths) (b : BoxNode) (h v : ℤ) (before : List Node) (x : Leaf) → HasWidth widths x
    → AllByRecursion (Within 1073741823) (numbers_at b h v before (node_of x))
    → AllByRecursion (λ mark. IsDrawn widths b.kind mark (width_in b x)) (marks_of_item b (item_h b h before) (item_v b v before) x)
leaf_drawn widths b h v before (glyph g) wide (left, (low, (right, fit))) =
    glyph_drawn widths b.kind (item_h b h before) (item_v b v before) (item_h b h (before ++ nodes.Glyph g ∷ [])) g wide (reach b h before (nodes.Glyph g)) left low right
leaf_drawn widths b h v before (font_kern width) wide fit = tt
leaf_drawn widths b h v before (kern width) wide fit = tt
leaf_drawn widths b h v before (glue g) wide fit = tt
leaf_drawn widths b h v before (penalty p) wide fit = tt
leaf_drawn widths b h v before (special text) wide (left, (low, fit)) = (record { h = left; v = low }, tt)
leaf_drawn widths b h v before (rule r) wide (left, (low, (right, (next, fit)))) =
    rule_drawn widths b.kind (item_h b h before) (item_v b v before +ℤ rule_below b.kind b r) (item_h b h (before ++ nodes.Rule r ∷ [])) (rule_tall b.kind b r)
    (rule_wide b.kind b r) (rule_end b.kind b (item_h b h before) (item_h b h (before ++ nodes.Rule r ∷ [])) r (reach b h before (nodes.Rule r))) left right fit

-- All drawn marks of a list can be drawn where all its numbers fit.
pub marks_drawn :
    (widths : Widths) (b : BoxNode) (h v : ℤ) (before : List Node) (after : Items) → EachLeaf (HasWidth widths) after
    → AllByRecursion (Within 1073741823) (numbers_after b h v before after) → EachMark (IsDrawn widths) b.kind (drawn_after b h v before after)
marks_drawn widths b h v before none wide fit = tt
marks_drawn widths b h v before (leaf x after) (here, wide) fit =
    let own = numbers_at b h v before (node_of x) in
    let rest = numbers_after b h v (before ++ node_of x ∷ []) after in
    each_in_front (IsDrawn widths) b.kind (marks_of_item b (item_h b h before) (item_v b v before) x) (width_in b x)
    (drawn_after b h v (before ++ node_of x ∷ []) after)
    (leaf_drawn widths b h v before x here (all_front (Within 1073741823) own rest fit))
    (marks_drawn widths b h v (before ++ node_of x ∷ []) after wide (all_back (Within 1073741823) own rest fit))
marks_drawn widths b h v before (box shift frame inner after) (within, wide) (left, (low, (right, (next, (across, (down, fit)))))) =
    let x = box_h b.kind (item_h b h before) shift in
    let y = list_v frame.kind frame.height (box_v b.kind (item_v b v before) shift frame.height) in
    let own = numbers_after (box_of frame inner) x y [] inner in
    let rest = numbers_after b h v (before ++ Box shift (box_of frame inner) ∷ []) after in
    each_grouped (IsDrawn widths) b.kind frame.kind inner _ _
    (marks_drawn widths (box_of frame inner) x y [] inner within (all_front (Within 1073741823) own rest fit))
    (marks_drawn widths b h v (before ++ Box shift (box_of frame inner) ∷ []) after wide (all_back (Within 1073741823) own rest fit))

-- The number of drawn marks and groups of a drawn page.
abbrev pub parts : DrawnPage → ℕ
parts blank = 0
parts (marked mark by rest) = parts rest + 1
parts (group kind inner rest) = parts inner + 1 + parts rest

-- The number of bytes in the texts of the specials of a drawn page.
abbrev pub texts : DrawnPage → ℕ
texts blank = 0
texts (marked (body.Rule x y height width) by rest) = texts rest
texts (marked (body.Glyph font code x y) by rest) = texts rest
texts (marked (body.Special x y text) by rest) = length text + texts rest
texts (group kind inner rest) = texts inner + texts rest

texts-in_rule : (h v height width by : ℤ) (rest : DrawnPage) → texts (in_front (rule_mark h v height width) by rest) ≡ texts rest
texts-in_rule h v height width by rest = cases (int_lt (pos 0) height && int_lt (pos 0) width)
  where
    cases : (b : Bool) → texts (in_front (if b then body.Rule h v height width ∷ [] else []) by rest) ≡ texts rest
    cases true = refl
    cases false = refl

texts-in_glyph : (kind : Kind) (h v : ℤ) (g : Glyph) (by : ℤ) (rest : DrawnPage) → texts (in_front (glyph_mark kind h v g) by rest) ≡ texts rest
texts-in_glyph Horizontal h v g by rest = refl
texts-in_glyph Vertical h v g by rest = refl

texts-in_leaf : (b : BoxNode) (h v : ℤ) (x : Leaf) (rest : DrawnPage)
    → texts (in_front (marks_of_item b h v x) (width_in b x) rest) ≡ text_size_in x + texts rest
texts-in_leaf b h v (glyph g) rest = omega (arith, texts-in_glyph b.kind h v g g.width rest)
texts-in_leaf b h v (font_kern width) rest = omega arith
texts-in_leaf b h v (kern width) rest = omega arith
texts-in_leaf b h v (glue g) rest = omega arith
texts-in_leaf b h v (penalty p) rest = omega arith
texts-in_leaf b h v (special text) rest = refl
texts-in_leaf b h v (rule r) rest =
    omega (arith, texts-in_rule h (v +ℤ rule_below b.kind b r) (rule_tall b.kind b r) (rule_wide b.kind b r) (rule_wide b.kind b r) rest)

texts-grouped : (items : Items) (own : Kind) (inner rest : DrawnPage) → texts (grouped_page items own inner rest) ≤ texts inner + texts rest
texts-grouped none own inner rest = omega arith
texts-grouped (leaf x items) own inner rest = omega arith
texts-grouped (box shift frame more items) own inner rest = omega arith

-- The texts in the drawn list are no longer than those of its specials.
pub few_texts : (b : BoxNode) (h v : ℤ) (before : List Node) (after : Items) → texts (drawn_after b h v before after) ≤ items_text after
few_texts b h v before none = omega arith
few_texts b h v before (leaf x after) =
    omega (
      arith,
      texts-in_leaf b (item_h b h before) (item_v b v before) x (drawn_after b h v (before ++ node_of x ∷ []) after),
      few_texts b h v (before ++ node_of x ∷ []) after,
    )
few_texts b h v before (box shift frame inner after) =
    let x = box_h b.kind (item_h b h before) shift in
    let y = list_v frame.kind frame.height (box_v b.kind (item_v b v before) shift frame.height) in
    omega (
      arith,
      texts-grouped inner frame.kind (drawn_after (box_of frame inner) x y [] inner)
          (drawn_after b h v (before ++ Box shift (box_of frame inner) ∷ []) after),
      few_texts (box_of frame inner) x y [] inner,
      few_texts b h v (before ++ Box shift (box_of frame inner) ∷ []) after,
    )

-- An item has at most one mark.
one_rule : (h v height width : ℤ) → length (rule_mark h v height width) ≤ 1
one_rule h v height width = cases (int_lt (pos 0) height && int_lt (pos 0) width)
  where
    cases : (b : Bool) → length {A = Mark} (if b then body.Rule h v height width ∷ [] else []) ≤ 1
    cases true = omega arith
    cases false = omega arith

one_glyph : (kind : Kind) (h v : ℤ) (g : Glyph) → length (glyph_mark kind h v g) ≤ 1
one_glyph Horizontal h v g = omega arith
one_glyph Vertical h v g = omega arith

one_mark : (b : BoxNode) (h v : ℤ) (x : Leaf) → length (marks_of_item b h v x) ≤ 1
one_mark b h v (glyph g) = one_glyph b.kind h v g
one_mark b h v (font_kern width) = omega arith
one_mark b h v (kern width) = omega arith
one_mark b h v (glue g) = omega arith
one_mark b h v (penalty p) = omega arith
one_mark b h v (special text) = omega arith
one_mark b h v (rule r) = one_rule h (v +ℤ rule_below b.kind b r) (rule_tall b.kind b r) (rule_wide b.kind b r)

parts-in_front : (marks : List Mark) (by : ℤ) (rest : DrawnPage) → parts (in_front marks by rest) ≡ length marks + parts rest
parts-in_front [] by rest = omega arith
parts-in_front (mark ∷ marks) by rest = omega (arith, parts-in_front marks by rest)

groups-in_front : (marks : List Mark) (by : ℤ) (rest : DrawnPage) → groups (in_front marks by rest) ≡ groups rest
groups-in_front [] by rest = refl
groups-in_front (mark ∷ marks) by rest = groups-in_front marks by rest

few_grouped : (items : Items) (own : Kind) (inner rest : DrawnPage) → parts (grouped_page items own inner rest) ≤ parts inner + 1 + parts rest
few_grouped none own inner rest = omega arith
few_grouped (leaf x items) own inner rest = omega arith
few_grouped (box shift frame more items) own inner rest = omega arith

grouped_depth : (items : Items) (own : Kind) (inner rest : DrawnPage)
    → groups (grouped_page items own inner rest) ≤ max (groups inner + 1) (groups rest)
grouped_depth none own inner rest = omega arith
grouped_depth (leaf x items) own inner rest = omega arith
grouped_depth (box shift frame more items) own inner rest = omega arith

pub few_parts : (b : BoxNode) (h v : ℤ) (before : List Node) (after : Items) → parts (drawn_after b h v before after) ≤ items_count after
few_parts b h v before none = omega arith
few_parts b h v before (leaf x after) =
    let here = marks_of_item b (item_h b h before) (item_v b v before) x in
    omega (
      arith,
      parts-in_front here (width_in b x) (drawn_after b h v (before ++ node_of x ∷ []) after),
      one_mark b (item_h b h before) (item_v b v before) x,
      few_parts b h v (before ++ node_of x ∷ []) after,
    )
few_parts b h v before (box shift frame inner after) =
    let x = box_h b.kind (item_h b h before) shift in
    let y = list_v frame.kind frame.height (box_v b.kind (item_v b v before) shift frame.height) in
    let own = drawn_after (box_of frame inner) x y [] inner in
    let later = drawn_after b h v (before ++ Box shift (box_of frame inner) ∷ []) after in
    omega (
      arith,
      few_grouped inner frame.kind own later,
      few_parts (box_of frame inner) x y [] inner,
      few_parts b h v (before ++ Box shift (box_of frame inner) ∷ []) after,
    )

pub few_groups : (b : BoxNode) (h v : ℤ) (before : List Node) (after : Items) → groups (drawn_after b h v before after) ≤ items_depth after
few_groups b h v before none = omega arith
few_groups b h v before (leaf x after) =
    let here = marks_of_item b (item_h b h before) (item_v b v before) x in
    omega (
      arith,
      groups-in_front here (width_in b x) (drawn_after b h v (before ++ node_of x ∷ []) after),
      few_groups b h v (before ++ node_of x ∷ []) after,
    )
few_groups b h v before (box shift frame inner after) =
    let x = box_h b.kind (item_h b h before) shift in
    let y = list_v frame.kind frame.height (box_v b.kind (item_v b v before) shift frame.height) in
    let own = drawn_after (box_of frame inner) x y [] inner in
    let later = drawn_after b h v (before ++ Box shift (box_of frame inner) ∷ []) after in
    omega (
      arith,
      grouped_depth inner frame.kind own later,
      few_groups (box_of frame inner) x y [] inner,
      few_groups b h v (before ++ Box shift (box_of frame inner) ∷ []) after,
    )
