-- The items of a list in order: the state after the first ones.
use Rattle.std.proofs.Common.{◌≡◌, ◌≢◌, ℕ, zero, suc, ◌+◌, ◌<◌, List, [], ◌∷◌, ◌++◌, length, take, drop, get_or, refl, ap, sym, ◌∙◌, add-one, drop-cons, ◌≤◌, arith}
use Rattle.std.proofs.lemmas.List.{take_more, length-take-le}
use Rattle.std.specs.Prelude.{ℤ, pos, ◌+ℤ◌, ◌-ℤ◌, Bool, true, false, not, ◌&&◌, ◌==◌, Some, None, slice_get}
use Rattle.std.specs.List.{list_all}
use Rattle.std.proofs.lemmas.List.Folds.{list_all-append}
use Rattle.std.proofs.lemmas.Bool.{eqb-true}
use Rattle.std.proofs.lemmas.Int.{ints}
use Rattle.node_core.specs.declared.tree.Kind.{Kind}
use Rattle.node_core.specs.declared.tree.Kind.TheVariants.{Horizontal}
use Rattle.node_core.specs.declared.tree.Glyph.{Glyph}
use Rattle.page_core.specs.declared.placing.Point.{Point}
use Rattle.node_core.specs.declared.tree.Setting.{Setting}
use Rattle.node_core.specs.Items.{Items, none, leaf, box, items_depth}
use Rattle.node_core.specs.Nodes.{max_nodes, items_of, nodes_of}
use Rattle.node_core.proofs.NodeLemmas.{items_of-nodes_of}
use Rattle.node_core.specs.declared.tree.Node.{Node}
use Rattle.node_core.specs.declared.tree.Node.TheVariants as nodes
use Rattle.node_core.specs.declared.tree.BoxNode.{BoxNode}
use Rattle.scaled_core.specs.Dimensions.{fits}
use Rattle.pack_core.specs.Places.{place}
use Rattle.pack_core.specs.Cursors.{WalkSums, sums_after, one_more, place_at}
use Rattle.pack_core.proofs.Walks.{one_more-reached, reached-more, place-reached, reached-passed}
use Rattle.page_core.specs.Marks.{ShippedPage, page_v, is_huge, right_at, down_at, list_v, item_h, item_v, box_h, box_v, numbers_at, numbers_after}
use Rattle.scaled_core.specs.Mark as body
use Rattle.page_core.specs.DrawnPages.{DrawnPage, marked, group, grouped_page, drawn_after}
use Rattle.page_core.specs.Placing.{Reaches, marked_of, reference_h, reference_v}
use Rattle.page_core.specs.Private.Placing.{is_blank, point_in, numbers_between, marked_at, drawn_left, numbers_left}
use Rattle.page_core.proofs.Walked.{reach_by, glyph-fits, glyph-sums, marks-glyph, blank-fits, blank-marks, between-none}

-- The items from place i on are the item there and those after it.
pub left_at : (xs : List Node) (i : ℕ) (x : Node) → i < length xs → x ≡ get_or xs i x → drop i xs ≡ x ∷ drop (i + 1) xs
left_at xs i x within is = rw (add-one, drop-cons xs i x) (ap (λ y. y ∷ drop (suc i) xs) (sym is))

-- The items up to place i are those before it and the item there.
pub taken_at : (xs : List Node) (i : ℕ) (x : Node) → i < length xs → x ≡ get_or xs i x → take i xs ++ x ∷ [] ≡ take (i + 1) xs
taken_at xs i x within is = sym (take_more xs i x within ∙ ap (λ y. take i xs ++ y ∷ []) (sym is))

-- The items inside an item at (h, v), before what is drawn after: for a box what is drawn in it, as a group; and their numbers.
abbrev pub inside : BoxNode → (h v : ℤ) → Node → DrawnPage → DrawnPage
inside b h v (nodes.Box shift inner) rest =
    grouped_page inner.list inner.kind
    (drawn_after inner (box_h b.kind h shift) (list_v inner.kind inner.height (box_v b.kind v shift inner.height)) [] inner.list) rest
inside b h v (nodes.Special text) rest = marked (body.Special h v text) (pos 0) rest
inside b h v other rest = rest

abbrev pub numbers_inside : BoxNode → (h v : ℤ) → Node → List ℤ
numbers_inside b h v (nodes.Box shift inner) =
    numbers_after inner (box_h b.kind h shift) (list_v inner.kind inner.height (box_v b.kind v shift inner.height)) [] inner.list
numbers_inside b h v other = []

-- What is drawn for an item and of the items after it, and their numbers, by cases on the item.
pub drawn-one :
    (b : BoxNode) (h v : ℤ) (before rest : List Node) (x : Node)
    → drawn_after b h v before (items_of (x ∷ rest))
    ≡ marked_of b (item_h b h before) (item_v b v before) x
    (inside b (item_h b h before) (item_v b v before) x (drawn_after b h v (before ++ x ∷ []) (items_of rest)))
drawn-one b h v before rest (nodes.Glyph g) = refl
drawn-one b h v before rest (nodes.FontKern width) = refl
drawn-one b h v before rest (nodes.Kern width) = refl
drawn-one b h v before rest (nodes.Glue g) = refl
drawn-one b h v before rest (nodes.Penalty p) = refl
drawn-one b h v before rest (nodes.Special text) = refl
drawn-one b h v before rest (nodes.Rule sizes) = refl
drawn-one b h v before rest (nodes.Box shift inner) = refl

pub numbers-one :
    (b : BoxNode) (h v : ℤ) (before rest : List Node) (x : Node)
    → numbers_after b h v before (items_of (x ∷ rest))
    ≡ numbers_at b h v before x
    ++ (numbers_inside b (item_h b h before) (item_v b v before) x ++ numbers_after b h v (before ++ x ∷ []) (items_of rest))
numbers-one b h v before rest (nodes.Glyph g) = refl
numbers-one b h v before rest (nodes.FontKern width) = refl
numbers-one b h v before rest (nodes.Kern width) = refl
numbers-one b h v before rest (nodes.Glue g) = refl
numbers-one b h v before rest (nodes.Penalty p) = refl
numbers-one b h v before rest (nodes.Special text) = refl
numbers-one b h v before rest (nodes.Rule sizes) = refl
numbers-one b h v before rest (nodes.Box shift inner) = refl

pub drawn_more :
    (b : BoxNode) (h v : ℤ) (xs : List Node) (i : ℕ) (x : Node) → i < length xs → x ≡ get_or xs i x
    → drawn_left b h v xs i
    ≡ marked_of b (item_h b h (take i xs)) (item_v b v (take i xs)) x
    (inside b (item_h b h (take i xs)) (item_v b v (take i xs)) x (drawn_left b h v xs (i + 1)))
drawn_more b h v xs i x within is =
    ap (λ after. drawn_after b h v (take i xs) (items_of after)) (left_at xs i x within is)
    ∙ (drawn-one b h v (take i xs) (drop (i + 1) xs) x
    ∙ ap (λ before. marked_of b (item_h b h (take i xs)) (item_v b v (take i xs)) x
    (inside b (item_h b h (take i xs)) (item_v b v (take i xs)) x (drawn_after b h v before (items_of (drop (i + 1) xs)))))
    (taken_at xs i x within is))

pub numbers_more :
    (b : BoxNode) (h v : ℤ) (xs : List Node) (i : ℕ) (x : Node) → i < length xs → x ≡ get_or xs i x
    → numbers_left b h v xs i
    ≡ numbers_at b h v (take i xs) x ++ (numbers_inside b (item_h b h (take i xs)) (item_v b v (take i xs)) x ++ numbers_left b h v xs (i + 1))
numbers_more b h v xs i x within is =
    ap (λ after. numbers_after b h v (take i xs) (items_of after)) (left_at xs i x within is)
    ∙ (numbers-one b h v (take i xs) (drop (i + 1) xs) x
    ∙ ap (λ before. numbers_at b h v (take i xs) x
    ++ (numbers_inside b (item_h b h (take i xs)) (item_v b v (take i xs)) x ++ numbers_after b h v before (items_of (drop (i + 1) xs)))) (taken_at xs i x within is))

-- Whether the numbers of the items that are left fit.
pub fits_more :
    (b : BoxNode) (h v : ℤ) (xs : List Node) (i : ℕ) (x : Node) → i < length xs → x ≡ get_or xs i x
    → list_all fits (numbers_left b h v xs i)
    ≡ (list_all fits (numbers_at b h v (take i xs) x)
    && (list_all fits (numbers_inside b (item_h b h (take i xs)) (item_v b v (take i xs)) x) && list_all fits (numbers_left b h v xs (i + 1))))
fits_more b h v xs i x within is =
    let here = numbers_at b h v (take i xs) x in
    let inner = numbers_inside b (item_h b h (take i xs)) (item_v b v (take i xs)) x in
    let later = numbers_left b h v xs (i + 1) in
    ap (list_all fits) (numbers_more b h v xs i x within is)
    ∙ (list_all-append fits here (inner ++ later) ∙ ap (λ rest. list_all fits here && rest) (list_all-append fits inner later))

-- The numbers and the marks of an item, from the state of a walk that has passed those before it.
pub between-at :
    (b : BoxNode) (h v : ℤ) (before : List Node) (x : Node)
    → numbers_between b h v (place_at b.setting (sums_after b.kind b.setting before)) (place_at b.setting (one_more b.kind b.setting (sums_after b.kind b.setting before) x)) x
    ≡ numbers_at b h v before x
between-at b h v before x =
    let next = place b.kind b.setting (before ++ x ∷ []) in
    ap (λ there. numbers_between b h v (place_at b.setting (sums_after b.kind b.setting before)) there x)
    (ap (place_at b.setting) (one_more-reached b.kind b.setting before x) ∙ place-reached b.kind b.setting (before ++ x ∷ []))
    ∙ ap (λ here. numbers_between b h v here next x) (place-reached b.kind b.setting before)

-- The place of a walk that has passed the items before an item.
pub reached-place :
    (b : BoxNode) (before : List Node) (from : WalkSums) → from ≡ sums_after b.kind b.setting before → place_at b.setting from ≡ place b.kind b.setting before
reached-place b before from at = ap (place_at b.setting) at ∙ place-reached b.kind b.setting before

-- The second part of a conjunction whose first part is true.
pub rest_of_and : (a b c : Bool) → true ≡ a → (a && b) ≡ c → b ≡ c
rest_of_and true b c first all = all
rest_of_and false b c first all = cc

pub last_of_three : (a b c : Bool) → not (a && (b && c)) ≡ false → c ≡ true
last_of_three true true true all = refl
last_of_three true true false all = cc
last_of_three true false c all = cc
last_of_three false b c all = cc

pub first_of_three : (a b c : Bool) → not (a && (b && c)) ≡ false → a ≡ true
first_of_three true b c all = refl
first_of_three false b c all = cc

pub second_of_three : (a b c : Bool) → not (a && (b && c)) ≡ false → b ≡ true
second_of_three true true c all = refl
second_of_three true false c all = cc
second_of_three false b c all = cc

-- Whether the numbers of an item fit, from the state of a walk that has passed those before it.
pub item_fits :
    (b : BoxNode) (h v : ℤ) (before : List Node) (x : Node) (from : WalkSums) (found : Bool) → from ≡ sums_after b.kind b.setting before
    → found ≡ list_all fits (numbers_between b h v (place_at b.setting from) (place_at b.setting (one_more b.kind b.setting from x)) x)
    → found ≡ list_all fits (numbers_at b h v before x)
item_fits b h v before x from found at is =
    is
    ∙ (ap (λ (r : WalkSums). list_all fits (numbers_between b h v (place_at b.setting r) (place_at b.setting (one_more b.kind b.setting r x)) x)) at
    ∙ ap (list_all fits) (between-at b h v before x))

-- A walk before an item has passed fewer items than the greatest length of a list.
pub few_passed :
    (kind : Kind) (setting : Setting) (xs : List Node) (i : ℕ) (from : WalkSums) → from ≡ sums_after kind setting (take i xs) → i < length xs → length xs ≤ max_nodes
    → from.passed < max_nodes
few_passed kind setting xs i from at within short =
    omega (arith, ap (λ (r : WalkSums). r.passed) at, reached-passed kind setting (take i xs), length-take-le i xs (omega (arith, within)), within, short)

pub first_false : (a b : Bool) → false ≡ a → (a && b) ≡ false
first_false false b is = refl
first_false true b is = absurd (cc)

pub second_false : (a b c : Bool) → false ≡ b → (a && (b && c)) ≡ false
second_false false b c is = refl
second_false true false c is = refl
second_false true true c is = absurd (cc)

-- A walk before all items.
pub reached-none : (kind : Kind) (setting : Setting) → record { natural = pos 0; shares = pos 0; passed = 0 } ≡ sums_after kind setting []
unfolding sums_after
reached-none kind setting = refl

-- The marks of an item and its reference point, from the state of such a walk.
pub item_marks :
    (b : BoxNode) (h v : ℤ) (before : List Node) (x : Node) (from : WalkSums) (rest found : DrawnPage) → from ≡ sums_after b.kind b.setting before
    → found ≡ marked_at b h v (place_at b.setting from) x rest → found ≡ marked_of b (item_h b h before) (item_v b v before) x rest
item_marks b h v before x from rest found at is = is ∙ ap (λ here. marked_at b h v here x rest) (reached-place b before from at)

-- The numbers of a glyph of a horizontal list fit where the points before it and after it do, and so those of the items from it on fit exactly where
-- those of the items after it do.
pub glyph_passed :
    (b : BoxNode) (h v : ℤ) (xs : List Node) (i : ℕ) (g : Glyph) (from : WalkSums) (at after : Point ℤ)
    → i < length xs → nodes.Glyph g ≡ get_or xs i (nodes.Glyph g) → from ≡ sums_after b.kind b.setting (take i xs)
    → point_in b h v (place_at b.setting from) ≡ Some at
    → point_in b h v (place_at b.setting (one_more b.kind b.setting from (nodes.Glyph g))) ≡ Some after
    → list_all fits (numbers_left b h v xs (i + 1)) ≡ list_all fits (numbers_left b h v xs i)
glyph_passed b h v xs i g from at after within is so here there =
    let x : Node = nodes.Glyph g in
    let fit = glyph-fits b h v (place_at b.setting from) (place_at b.setting (one_more b.kind b.setting from x)) at after g here there in
    rest_of_and true _ _ refl (rest_of_and _ _ _ (item_fits b h v (take i xs) x from true so (sym fit)) (sym (fits_more b h v xs i x within is)))

-- What is drawn of a glyph of a horizontal list and of the items after it.
pub glyph_drawn :
    (b : BoxNode) (h v : ℤ) (xs : List Node) (i : ℕ) (g : Glyph) (from : WalkSums) (at : Point ℤ)
    → b.kind ≡ Horizontal → i < length xs → nodes.Glyph g ≡ get_or xs i (nodes.Glyph g) → from ≡ sums_after b.kind b.setting (take i xs)
    → point_in b h v (place_at b.setting from) ≡ Some at
    → drawn_left b h v xs i ≡ marked (body.Glyph (pos g.slot) (pos g.code) at.h at.v) g.width (drawn_left b h v xs (i + 1))
glyph_drawn b h v xs i g from at across within is so here =
    let x : Node = nodes.Glyph g in
    let later = drawn_left b h v xs (i + 1) in
    let seen = marked_at b h v (place_at b.setting from) x later in
    drawn_more b h v xs i x within is
    ∙ (sym (item_marks b h v (take i xs) x from later seen so refl) ∙ marks-glyph b h v (place_at b.setting from) at g later across here)

-- An item without a mark has no items, and so it draws nothing.
blank_numbers : (b : BoxNode) (h v : ℤ) (x : Node) → is_blank x ≡ true → numbers_inside b h v x ≡ []
blank_numbers b h v (nodes.FontKern w) is = refl
blank_numbers b h v (nodes.Kern w) is = refl
blank_numbers b h v (nodes.Glue g) is = refl
blank_numbers b h v (nodes.Penalty p) is = refl
blank_numbers b h v (nodes.Glyph g) is = absurd (cc)
blank_numbers b h v (nodes.Special text) is = absurd (cc)
blank_numbers b h v (nodes.Rule r) is = absurd (cc)
blank_numbers b h v (nodes.Box shift inner) is = absurd (cc)

blank_inside : (b : BoxNode) (h v : ℤ) (x : Node) (rest : DrawnPage) → is_blank x ≡ true → inside b h v x rest ≡ rest
blank_inside b h v (nodes.FontKern w) rest is = refl
blank_inside b h v (nodes.Kern w) rest is = refl
blank_inside b h v (nodes.Glue g) rest is = refl
blank_inside b h v (nodes.Penalty p) rest is = refl
blank_inside b h v (nodes.Glyph g) rest is = absurd (cc)
blank_inside b h v (nodes.Special text) rest is = absurd (cc)
blank_inside b h v (nodes.Rule r) rest is = absurd (cc)
blank_inside b h v (nodes.Box shift inner) rest is = absurd (cc)

-- The numbers of the items from such an item on fit exactly where those of the items after it do, if the points before it and after it fit.
pub blank_passed :
    (b : BoxNode) (h v : ℤ) (xs : List Node) (i : ℕ) (x : Node) (from : WalkSums) (at after : Point ℤ)
    → is_blank x ≡ true → i < length xs → x ≡ get_or xs i x → from ≡ sums_after b.kind b.setting (take i xs)
    → point_in b h v (place_at b.setting from) ≡ Some at
    → point_in b h v (place_at b.setting (one_more b.kind b.setting from x)) ≡ Some after
    → list_all fits (numbers_left b h v xs (i + 1)) ≡ list_all fits (numbers_left b h v xs i)
blank_passed b h v xs i x from at after blank within is so here there =
    let fit = blank-fits b h v (place_at b.setting from) (place_at b.setting (one_more b.kind b.setting from x)) at after x blank here there in
    let none : list_all fits (numbers_inside b (item_h b h (take i xs)) (item_v b v (take i xs)) x) ≡ true =
    ap (list_all fits) (blank_numbers b (item_h b h (take i xs)) (item_v b v (take i xs)) x blank) in
    rest_of_and _ _ _ (sym none) (rest_of_and _ _ _ (item_fits b h v (take i xs) x from true so (sym fit)) (sym (fits_more b h v xs i x within is)))

-- What is drawn of such an item and of the items after it.
pub blank_drawn :
    (b : BoxNode) (h v : ℤ) (xs : List Node) (i : ℕ) (x : Node) → is_blank x ≡ true → i < length xs → x ≡ get_or xs i x
    → drawn_left b h v xs i ≡ drawn_left b h v xs (i + 1)
blank_drawn b h v xs i x blank within is =
    let x_h = item_h b h (take i xs) in
    let x_v = item_v b v (take i xs) in
    let later = drawn_left b h v xs (i + 1) in
    drawn_more b h v xs i x within is
    ∙ (blank-marks b x_h x_v x (inside b x_h x_v x later) blank ∙ blank_inside b x_h x_v x later blank)

-- Where the next point of an item does not fit, the numbers of the items from it on do not.
pub item_over :
    (b : BoxNode) (h v : ℤ) (xs : List Node) (i : ℕ) (x : Node) (from : WalkSums)
    → i < length xs → x ≡ get_or xs i x → from ≡ sums_after b.kind b.setting (take i xs)
    → point_in b h v (place_at b.setting (one_more b.kind b.setting from x)) ≡ None
    → list_all fits (numbers_left b h v xs i) ≡ false
item_over b h v xs i x from within is so over =
    let no = between-none b h v (place_at b.setting from) (place_at b.setting (one_more b.kind b.setting from x)) x over in
    fits_more b h v xs i x within is ∙ first_false _ _ (item_fits b h v (take i xs) x from false so (sym no))

-- The sums of a walk, from its parts.
pub sums-are :
    (r : WalkSums) (natural shares : ℤ) (passed : ℕ) → r.natural ≡ natural → r.shares ≡ shares → r.passed ≡ passed
    → record { natural = natural; shares = shares; passed = passed } ≡ r
sums-are r natural shares passed first second third = rw (sym first, sym second, sym third) refl

-- The sums of a walk that has passed a run of glyphs: h goes from `start` to `first` at the first one, and then to `end`.
pub sums_of_run :
    (b : BoxNode) (xs : List Node) (i n : ℕ) (g : Glyph) (from moved : WalkSums) (start first end by : ℤ) (count : ℕ)
    → b.kind ≡ Horizontal → i < length xs → nodes.Glyph g ≡ get_or xs i (nodes.Glyph g) → from ≡ sums_after b.kind b.setting (take i xs)
    → moved ≡ record { natural = from.natural +ℤ by; shares = from.shares; passed = from.passed + count }
    → by ≡ end -ℤ start → first ≡ start +ℤ g.width → i + count ≡ n → n ≤ length xs
    → (sums_after b.kind b.setting (take n xs)).natural ≡ (sums_after b.kind b.setting (take (i + 1) xs)).natural +ℤ (end -ℤ first)
    → (sums_after b.kind b.setting (take n xs)).shares ≡ (sums_after b.kind b.setting (take (i + 1) xs)).shares
    → moved ≡ sums_after b.kind b.setting (take n xs)
sums_of_run b xs i n g from moved start first end by count across within is so step far begin counted short natural shares =
    let x : Node = nodes.Glyph g in
    let more = ap (λ (r : WalkSums). one_more b.kind b.setting r x) so ∙ reached-more b.kind b.setting xs i x within is in
    let sums = glyph-sums b.kind b.setting from g across in
    let before = ap (λ (r : WalkSums). r.passed) so ∙ (reached-passed b.kind b.setting (take i xs) ∙ length-take-le i xs (omega (arith, within))) in
    let after = reached-passed b.kind b.setting (take n xs) ∙ length-take-le n xs short in
    step
    ∙ sums-are (sums_after b.kind b.setting (take n xs)) _ _ _
    (omega (arith, ints, natural, ap (λ (r : WalkSums). r.natural) more, sums.0, far, begin))
    (shares ∙ (sym (ap (λ (r : WalkSums). r.shares) more) ∙ sums.1))
    (omega (arith, after, before, counted))

-- The item after a glyph or a rule is where h is after it.
pub reach : (b : BoxNode) (h : ℤ) (before : List Node) (x : Node) → Reaches b.kind (item_h b h before) (item_h b h (before ++ x ∷ [])) x
reach b h before x =
    let from = sums_after b.kind b.setting before in
    let next = ap (place_at b.setting) (one_more-reached b.kind b.setting before x) ∙ place-reached b.kind b.setting (before ++ x ∷ []) in
    reach_by b.kind b.setting from h (item_h b h before) (item_h b h (before ++ x ∷ [])) x (sym (ap (right_at b.kind h) (place-reached b.kind b.setting before)))
    (sym (ap (right_at b.kind h) next))

-- The start of the list of an inner box, whose reference point comes from a walk that has passed the items before it.
pub inner_begin :
    (b inner : BoxNode) (h v : ℤ) (before : List Node) (x : Node) (shift : ℤ) (from : WalkSums) (at_h at_v begin_h begin_v : ℤ)
    → from ≡ sums_after b.kind b.setting before → x ≡ nodes.Box shift inner
    → at_h ≡ reference_h b.kind (right_at b.kind h (place_at b.setting from)) x
    → at_v ≡ reference_v b.kind (down_at b.kind v (place_at b.setting from)) x
    → begin_h ≡ at_h → begin_v ≡ list_v inner.kind inner.height at_v
    → (begin_h ≡ box_h b.kind (item_h b h before) shift) × (begin_v ≡ list_v inner.kind inner.height (box_v b.kind (item_v b v before) shift inner.height))
inner_begin b inner h v before x shift from at_h at_v begin_h begin_v at is right down first second =
    let here = reached-place b before from at in (
      first ∙ (right ∙ (ap (reference_h b.kind (right_at b.kind h (place_at b.setting from))) is ∙ ap (λ place. box_h b.kind (right_at b.kind h place) shift) here)),
      second
          ∙ ap (list_v inner.kind inner.height)
          (down ∙ (ap (reference_v b.kind (down_at b.kind v (place_at b.setting from))) is ∙ ap (λ place. box_v b.kind (down_at b.kind v place) shift inner.height) here)),
    )

-- The numbers of the items of such a box, and what is drawn in it.
pub inner_numbers :
    (b inner : BoxNode) (h v shift begin_h begin_v : ℤ) (x : Node) → x ≡ nodes.Box shift inner
    → (begin_h ≡ box_h b.kind h shift) × (begin_v ≡ list_v inner.kind inner.height (box_v b.kind v shift inner.height))
    → numbers_inside b h v x ≡ numbers_after inner begin_h begin_v [] inner.list
inner_numbers b inner h v shift begin_h begin_v x is (right, down) = rw (is, right, down) refl

pub inner_drawn :
    (b inner : BoxNode) (h v shift begin_h begin_v : ℤ) (x : Node) (rest : DrawnPage) → x ≡ nodes.Box shift inner
    → (begin_h ≡ box_h b.kind h shift) × (begin_v ≡ list_v inner.kind inner.height (box_v b.kind v shift inner.height))
    → inside b h v x rest ≡ grouped_page inner.list inner.kind (drawn_after inner begin_h begin_v [] inner.list) rest
inner_drawn b inner h v shift begin_h begin_v x rest is (right, down) = rw (is, right, down) refl

-- A list without items, and its numbers.
pub no_items : (items : Items) → (length (nodes_of items) == 0) ≡ true → items ≡ none
no_items none empty = refl
no_items (leaf x items) empty = absurd (more (length (nodes_of items)) (eqb-true (length (nodes_of (leaf x items))) 0 empty))
  where
    more : (n : ℕ) → suc n ≡ 0 → ⊥
    more n is = omega (arith, is)
no_items (box shift frame some items) empty =
    absurd (more (length (nodes_of items)) (eqb-true (length (nodes_of (box shift frame some items))) 0 empty))
  where
    more : (n : ℕ) → suc n ≡ 0 → ⊥
    more n is = omega (arith, is)

pub no_numbers : (b : BoxNode) (h v : ℤ) (items : Items) → (length (nodes_of items) == 0) ≡ true → list_all fits (numbers_after b h v [] items) ≡ true
no_numbers b h v items empty = ap (λ items. list_all fits (numbers_after b h v [] items)) (no_items items empty)

-- An item that is no box has no items.
pub leaf_numbers : (b : BoxNode) (h v : ℤ) (x : Node) → ((shift : ℤ) (inner : BoxNode) → x ≢ nodes.Box shift inner) → numbers_inside b h v x ≡ []
leaf_numbers b h v (nodes.Box shift inner) other = absurd (other shift inner refl)
leaf_numbers b h v (nodes.Glyph g) other = refl
leaf_numbers b h v (nodes.FontKern width) other = refl
leaf_numbers b h v (nodes.Kern width) other = refl
leaf_numbers b h v (nodes.Glue g) other = refl
leaf_numbers b h v (nodes.Penalty p) other = refl
leaf_numbers b h v (nodes.Special text) other = refl
leaf_numbers b h v (nodes.Rule sizes) other = refl

pub leaf_drawn :
    (b : BoxNode) (h v : ℤ) (x : Node) (rest : DrawnPage) → ((shift : ℤ) (inner : BoxNode) → x ≢ nodes.Box shift inner)
    → ((text : List ℕ) → x ≢ nodes.Special text)
    → inside b h v x rest ≡ rest
leaf_drawn b h v (nodes.Box shift inner) rest other no_text = absurd (other shift inner refl)
leaf_drawn b h v (nodes.Glyph g) rest other no_text = refl
leaf_drawn b h v (nodes.FontKern width) rest other no_text = refl
leaf_drawn b h v (nodes.Kern width) rest other no_text = refl
leaf_drawn b h v (nodes.Glue g) rest other no_text = refl
leaf_drawn b h v (nodes.Penalty p) rest other no_text = refl
leaf_drawn b h v (nodes.Special text) rest other no_text = absurd (no_text text refl)
leaf_drawn b h v (nodes.Rule sizes) rest other no_text = refl

-- A special that a walk reaches after the items before it is at its place.
pub special_drawn :
    (b : BoxNode) (h v : ℤ) (before : List Node) (x : Node) (text : List ℕ) (from : WalkSums) (at_h at_v : ℤ) (rest : DrawnPage)
    → from ≡ sums_after b.kind b.setting before → x ≡ nodes.Special text
    → at_h ≡ reference_h b.kind (right_at b.kind h (place_at b.setting from)) x
    → at_v ≡ reference_v b.kind (down_at b.kind v (place_at b.setting from)) x
    → inside b (item_h b h before) (item_v b v before) x rest ≡ marked (body.Special at_h at_v text) (pos 0) rest
special_drawn b h v before x text from at_h at_v rest at is right down =
    let here = reached-place b before from at in
    let across : at_h ≡ item_h b h before = right ∙ (ap (reference_h b.kind (right_at b.kind h (place_at b.setting from))) is ∙ ap (λ place. right_at b.kind h place) here) in
    let below : at_v ≡ item_v b v before = down ∙ (ap (reference_v b.kind (down_at b.kind v (place_at b.setting from))) is ∙ ap (λ place. down_at b.kind v place) here) in
    rw (is, across, below) refl

-- A box in a list nests less deep than the list.
tail_depth : (x : Node) (rest : List Node) → items_depth (items_of rest) ≤ items_depth (items_of (x ∷ rest))
tail_depth (nodes.Box shift inner) rest = omega arith
tail_depth (nodes.Glyph g) rest = omega arith
tail_depth (nodes.FontKern width) rest = omega arith
tail_depth (nodes.Kern width) rest = omega arith
tail_depth (nodes.Glue g) rest = omega arith
tail_depth (nodes.Penalty p) rest = omega arith
tail_depth (nodes.Special text) rest = omega arith
tail_depth (nodes.Rule sizes) rest = omega arith

left_depth : (i : ℕ) (xs : List Node) → items_depth (items_of (drop i xs)) ≤ items_depth (items_of xs)
left_depth zero xs = omega arith
left_depth (suc i) [] = omega arith
left_depth (suc i) (x ∷ xs) = omega (arith, left_depth i xs, tail_depth x xs)

pub inner_depth :
    (items : Items) (xs : List Node) (i : ℕ) (x : Node) (shift : ℤ) (inner : BoxNode) → i < length xs → x ≡ get_or xs i x → xs ≡ nodes_of items
    → x ≡ nodes.Box shift inner → items_depth inner.list < items_depth items
inner_depth items xs i x shift inner within at all is =
    let left : drop i xs ≡ nodes.Box shift inner ∷ drop (i + 1) xs = left_at xs i x within at ∙ ap (λ y. y ∷ drop (i + 1) xs) is in
    let whole : items_of xs ≡ items = ap items_of all ∙ items_of-nodes_of items in
    omega (arith, left_depth i xs, ap (λ nodes. items_depth (items_of nodes)) left, ap items_depth whole)

-- A page whose bottom or right edge does not fit is huge; another page is huge where the numbers of its items do not fit.
pub ends_huge : (page : ShippedPage) → (fits (page.v +ℤ page.box_node.depth) && fits (page.h +ℤ page.box_node.width)) ≡ false → is_huge page ≡ true
unfolding is_huge
ends_huge page over =
    by_tests (fits (page.v +ℤ page.box_node.depth)) (fits (page.h +ℤ page.box_node.width))
    (list_all fits (numbers_after page.box_node page.h (page_v page) [] page.box_node.list)) over
  where
    by_tests : (a b c : Bool) → (a && b) ≡ false → not (a && (b && c)) ≡ true
    by_tests true true c over = absurd (cc)
    by_tests true false c over = refl
    by_tests false b c over = refl

pub items_huge :
    (page : ShippedPage) (fit : Bool) → (fits (page.v +ℤ page.box_node.depth) && fits (page.h +ℤ page.box_node.width)) ≡ true
    → fit ≡ list_all fits (numbers_after page.box_node page.h (page_v page) [] page.box_node.list) → is_huge page ≡ not fit
unfolding is_huge
items_huge page fit within is =
    by_tests (fits (page.v +ℤ page.box_node.depth)) (fits (page.h +ℤ page.box_node.width))
    (list_all fits (numbers_after page.box_node page.h (page_v page) [] page.box_node.list)) within
    ∙ ap not (sym is)
  where
    by_tests : (a b c : Bool) → (a && b) ≡ true → not (a && (b && c)) ≡ not c
    by_tests true true c within = refl
    by_tests true false c within = absurd (cc)
    by_tests false b c within = absurd (cc)

-- The numbers of the items of a page that is not huge fit.
pub items_fit : (page : ShippedPage) → is_huge page ≡ false → list_all fits (numbers_after page.box_node page.h (page_v page) [] page.box_node.list) ≡ true
unfolding is_huge
items_fit page small = last_of_three _ _ _ small

-- A box without items is no group, and a box with items is one.
pub grouped-none : (items : Items) (kind : Kind) (inner rest : DrawnPage) → (length (nodes_of items) == 0) ≡ true
    → grouped_page items kind inner rest ≡ rest
grouped-none items kind inner rest empty = ap (λ items. grouped_page items kind inner rest) (no_items items empty)

pub grouped-some : (items : Items) (kind : Kind) (inner rest : DrawnPage) → (length (nodes_of items) == 0) ≡ false
    → grouped_page items kind inner rest ≡ group kind inner rest
grouped-some none kind inner rest full = absurd (cc)
grouped-some (leaf x items) kind inner rest full = refl
grouped-some (box shift frame some items) kind inner rest full = refl

-- The item at an index, read from the list.
pub item_at : (xs : List Node) (i : ℕ) (x : Node) → i < length xs → x ≡ get_or xs i x → slice_get xs i ≡ Some x
item_at [] i x within at = absurd (omega (arith, within))
item_at (y ∷ xs) zero x within at = ap Some (sym at)
item_at (y ∷ xs) (suc i) x within at = item_at xs i x (omega (arith, within)) at

pub item_is : (xs : List Node) (i : ℕ) (x y : Node) → i < length xs → x ≡ get_or xs i x → slice_get xs i ≡ Some y → x ≡ y
item_is xs i x y within at is = same (sym (item_at xs i x within at) ∙ is)
  where
    same : Some x ≡ Some y → x ≡ y
    same e = cc
