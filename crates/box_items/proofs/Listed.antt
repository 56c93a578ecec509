-- The rows of a list of nodes, one node after the other.
use Rattle.std.proofs.Common.{◌≡◌, ◌∙◌, ℕ, ℤ, ◌+◌, ◌<◌, List, [], ◌∷◌, ◌++◌, length, take, drop, get_or, refl, ap, arith, length-append}
use Rattle.node_core.specs.declared.tree.Node.{Node}
use Rattle.node_core.specs.declared.tree.Node.TheVariants as nodes
use Rattle.node_core.specs.declared.tree.BoxNode.{BoxNode}
use Rattle.node_core.specs.Items.{glyph, font_kern, kern, glue, penalty, rule, special, Items, none, leaf, box, items_count, items_text, text_size_in}
use Rattle.node_core.specs.Nodes.{box_count, box_of, frame_of, items_of, node_of}
use Rattle.std.proofs.Common.{ap₂}
use Rattle.std.specs.Prelude.{◌-ℤ◌, pos}
use Rattle.pack_core.specs.Cursors.{WalkSums, one_more, place_at, sums_after}
use Rattle.pack_core.proofs.Walks.{one_more-reached}
use Rattle.page_core.proofs.Places.{left_at, reached-place, taken_at}
use Rattle.box_items.specs.Rows.{ItemPlace, box_row, list_place, origin, place_after, reference_point, rows_after, rows_of_box, set_width_of, texts_in, with_text}
use Rattle.box_items.specs.Private.Written.{rows_inside, rows_of_node, text_inside, texts_inside, count_inside}

-- The rows of a node, and then those of the nodes after it, by cases on the node.
pub rows-one :
    (b : BoxNode) (from : ItemPlace) (before rest : List Node) (x : Node)
    → rows_after b from before (items_of (x ∷ rest))
    ≡ rows_of_node b from before x ++ rows_after b (with_text from (text_inside x)) (before ++ x ∷ []) (items_of rest)
rows-one b from before rest (nodes.Glyph g) = refl
rows-one b from before rest (nodes.FontKern width) = refl
rows-one b from before rest (nodes.Kern width) = refl
rows-one b from before rest (nodes.Glue g) = refl
rows-one b from before rest (nodes.Penalty p) = refl
rows-one b from before rest (nodes.Special text) = refl
rows-one b from before rest (nodes.Rule sizes) = refl
rows-one b from before rest (nodes.Box shift inner) = refl

pub texts-one : (rest : List Node) (x : Node) → texts_in (items_of (x ∷ rest)) ≡ texts_inside x ++ texts_in (items_of rest)
texts-one rest (nodes.Glyph g) = refl
texts-one rest (nodes.FontKern width) = refl
texts-one rest (nodes.Kern width) = refl
texts-one rest (nodes.Glue g) = refl
texts-one rest (nodes.Penalty p) = refl
texts-one rest (nodes.Special text) = refl
texts-one rest (nodes.Rule sizes) = refl
texts-one rest (nodes.Box shift inner) = refl

pub count-one : (rest : List Node) (x : Node) → items_count (items_of (x ∷ rest)) ≡ 1 + count_inside x + items_count (items_of rest)
count-one rest (nodes.Glyph g) = omega arith
count-one rest (nodes.FontKern width) = omega arith
count-one rest (nodes.Kern width) = omega arith
count-one rest (nodes.Glue g) = omega arith
count-one rest (nodes.Penalty p) = omega arith
count-one rest (nodes.Special text) = omega arith
count-one rest (nodes.Rule sizes) = omega arith
count-one rest (nodes.Box shift inner) = omega arith

pub bytes-one : (rest : List Node) (x : Node) → items_text (items_of (x ∷ rest)) ≡ text_inside x + items_text (items_of rest)
bytes-one rest (nodes.Glyph g) = omega arith
bytes-one rest (nodes.FontKern width) = omega arith
bytes-one rest (nodes.Kern width) = omega arith
bytes-one rest (nodes.Glue g) = omega arith
bytes-one rest (nodes.Penalty p) = omega arith
bytes-one rest (nodes.Special text) = omega arith
bytes-one rest (nodes.Rule sizes) = omega arith
bytes-one rest (nodes.Box shift inner) = omega arith

-- A box has as many rows as items, and its texts have as many bytes.
pub length-rows : (b : BoxNode) (from : ItemPlace) (before : List Node) (after : Items) → length (rows_after b from before after) ≡ items_count after
length-rows b from before none = refl
length-rows b from before (leaf x after) = omega (arith, length-rows b (with_text from (text_size_in x)) (before ++ node_of x ∷ []) after)
length-rows b from before (box shift frame inner after) =
    let at = reference_point b.kind (place_after b from before) shift frame in
    let rows = rows_after (box_of frame inner) (list_place frame at) [] inner in
    let others = rows_after b (with_text from (items_text inner)) (before ++ nodes.Box shift (box_of frame inner) ∷ []) after in
    omega (
      arith,
      length-append rows others,
      length-rows (box_of frame inner) (list_place frame at) [] inner,
      length-rows b (with_text from (items_text inner)) (before ++ nodes.Box shift (box_of frame inner) ∷ []) after,
    )

pub length-texts : (items : Items) → length (texts_in items) ≡ items_text items
length-texts none = refl
length-texts (leaf (glyph g) after) = omega (arith, length-texts after)
length-texts (leaf (font_kern width) after) = omega (arith, length-texts after)
length-texts (leaf (kern width) after) = omega (arith, length-texts after)
length-texts (leaf (glue g) after) = omega (arith, length-texts after)
length-texts (leaf (penalty p) after) = omega (arith, length-texts after)
length-texts (leaf (rule r) after) = omega (arith, length-texts after)
length-texts (leaf (special text) after) = omega (arith, length-texts after, length-append text (texts_in after))
length-texts (box shift frame inner after) = omega (arith, length-texts inner, length-texts after, length-append (texts_in inner) (texts_in after))

pub row_count : (b : BoxNode) → length (rows_of_box b) ≡ box_count b
unfolding rows_of_box
row_count b = omega (arith, length-rows b (list_place (frame_of b) origin) [] b.list)

-- An item has as many rows inside as items, and its texts have as many bytes.
pub length-inside : (at : ItemPlace) (x : Node) → length (rows_inside at x) ≡ count_inside x
length-inside at (nodes.Glyph g) = refl
length-inside at (nodes.FontKern width) = refl
length-inside at (nodes.Kern width) = refl
length-inside at (nodes.Glue g) = refl
length-inside at (nodes.Penalty p) = refl
length-inside at (nodes.Special text) = refl
length-inside at (nodes.Rule sizes) = refl
length-inside at (nodes.Box shift inner) = length-rows inner (list_place (frame_of inner) at) [] inner.list

pub length-texts_inside : (x : Node) → length (texts_inside x) ≡ text_inside x
length-texts_inside (nodes.Glyph g) = refl
length-texts_inside (nodes.FontKern width) = refl
length-texts_inside (nodes.Kern width) = refl
length-texts_inside (nodes.Glue g) = refl
length-texts_inside (nodes.Penalty p) = refl
length-texts_inside (nodes.Special text) = refl
length-texts_inside (nodes.Rule sizes) = refl
length-texts_inside (nodes.Box shift inner) = length-texts inner.list

-- The rows, the texts and their numbers for the nodes from place i on, at the node there.
module _ (xs : List Node) (i : ℕ) (x : Node) (within : i < length xs) (is : x ≡ get_or xs i x) where
  pub rows_left : (b : BoxNode) (from : ItemPlace)
      → rows_after b from (take i xs) (items_of (drop i xs))
      ≡ rows_of_node b from (take i xs) x ++ rows_after b (with_text from (text_inside x)) (take (i + 1) xs) (items_of (drop (i + 1) xs))
  rows_left b from =
      ap (λ (after : List Node). rows_after b from (take i xs) (items_of after)) (left_at xs i x within is)
      ∙ (rows-one b from (take i xs) (drop (i + 1) xs) x
      ∙ ap (λ (before : List Node). rows_of_node b from (take i xs) x ++ rows_after b (with_text from (text_inside x)) before (items_of (drop (i + 1) xs)))
      (taken_at xs i x within is))

  pub texts_left : texts_in (items_of (drop i xs)) ≡ texts_inside x ++ texts_in (items_of (drop (i + 1) xs))
  texts_left = ap (λ (after : List Node). texts_in (items_of after)) (left_at xs i x within is) ∙ texts-one (drop (i + 1) xs) x

  pub count_left : items_count (items_of (drop i xs)) ≡ 1 + count_inside x + items_count (items_of (drop (i + 1) xs))
  count_left = ap (λ (after : List Node). items_count (items_of after)) (left_at xs i x within is) ∙ count-one (drop (i + 1) xs) x

  pub bytes_left : items_text (items_of (drop i xs)) ≡ text_inside x + items_text (items_of (drop (i + 1) xs))
  bytes_left = ap (λ (after : List Node). items_text (items_of after)) (left_at xs i x within is) ∙ bytes-one (drop (i + 1) xs) x

-- The distance from an item to the next one, by the cursors before it and after it.
pub far : (b : BoxNode) (before : List Node) (x : Node) (from to : WalkSums) → from ≡ sums_after b.kind b.setting before
    → to ≡ one_more b.kind b.setting from x → place_at b.setting to -ℤ place_at b.setting from ≡ set_width_of b before x
far b before x from to here there =
    let next : to ≡ sums_after b.kind b.setting (before ++ x ∷ []) =
    there ∙ (ap (λ (w : WalkSums). one_more b.kind b.setting w x) here ∙ one_more-reached b.kind b.setting before x) in
    ap₂ (λ (y z : ℤ). y -ℤ z) (reached-place b (before ++ x ∷ []) to next) (reached-place b before from here)

-- A node that is neither a box nor a special has nothing inside.
module _ (x : Node) (box : (shift : ℤ) (b : BoxNode) → x ≡ nodes.Box shift b → ⊥) where
  pub no_rows : (at : ItemPlace) → rows_inside at x ≡ []
  no_rows at = by_node x box
    where
      by_node : (y : Node) → ((shift : ℤ) (b : BoxNode) → y ≡ nodes.Box shift b → ⊥) → rows_inside at y ≡ []
      by_node (nodes.Glyph g) other = refl
      by_node (nodes.FontKern width) other = refl
      by_node (nodes.Kern width) other = refl
      by_node (nodes.Glue g) other = refl
      by_node (nodes.Penalty p) other = refl
      by_node (nodes.Special text) other = refl
      by_node (nodes.Rule sizes) other = refl
      by_node (nodes.Box shift inner) other = absurd (other shift inner refl)

  pub no_count : count_inside x ≡ 0
  no_count = by_node x box
    where
      by_node : (y : Node) → ((shift : ℤ) (b : BoxNode) → y ≡ nodes.Box shift b → ⊥) → count_inside y ≡ 0
      by_node (nodes.Glyph g) other = refl
      by_node (nodes.FontKern width) other = refl
      by_node (nodes.Kern width) other = refl
      by_node (nodes.Glue g) other = refl
      by_node (nodes.Penalty p) other = refl
      by_node (nodes.Special text) other = refl
      by_node (nodes.Rule sizes) other = refl
      by_node (nodes.Box shift inner) other = absurd (other shift inner refl)

  pub no_texts : ((text : List ℕ) → x ≡ nodes.Special text → ⊥) → texts_inside x ≡ []
  no_texts no_special = by_node x box no_special
    where
      by_node : (y : Node) → ((shift : ℤ) (b : BoxNode) → y ≡ nodes.Box shift b → ⊥) → ((text : List ℕ) → y ≡ nodes.Special text → ⊥) → texts_inside y ≡ []
      by_node (nodes.Glyph g) other no_text = refl
      by_node (nodes.FontKern width) other no_text = refl
      by_node (nodes.Kern width) other no_text = refl
      by_node (nodes.Glue g) other no_text = refl
      by_node (nodes.Penalty p) other no_text = refl
      by_node (nodes.Special text) other no_text = absurd (no_text text refl)
      by_node (nodes.Rule sizes) other no_text = refl
      by_node (nodes.Box shift inner) other no_text = absurd (other shift inner refl)

-- The rows of a box: its own, and those of its items.
pub all_rows : (b : BoxNode) → rows_of_box b ≡ (box_row origin (pos 0) (frame_of b) ∷ []) ++ rows_after b (list_place (frame_of b) origin) [] b.list
unfolding rows_of_box
all_rows b = refl
