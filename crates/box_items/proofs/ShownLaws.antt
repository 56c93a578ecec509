-- The marks that the rows of a box show.
use Rattle.std.proofs.Common.{◌≡◌, ◌∙◌, ℕ, ℤ, pos, negsuc, suc, ◌+◌, ◌-◌, ◌*◌, ◌/◌, ◌%◌, ◌^◌, ◌<◌, ◌≤◌, ◌++◌, List, [], ◌∷◌, length, take, drop, ap, ap₂, arith, refl, sym, append_assoc, append-nil, length-append}
use Rattle.std.specs.Prelude.{◌+ℤ◌, ◌*ℤ◌, ◌&&◌, Bool, true, false}
use Rattle.std.specs.Int.{int_wrap, cast_signed, cast_unsigned, w64, w128}
use Rattle.std.specs.Int.Signed.{mag}
use Rattle.std.specs.List.{list_all}
use Rattle.std.proofs.lemmas.Int.{int_wrap_fits, ints, to_z_pos}
use Rattle.std.proofs.lemmas.List.{drop_at, take_at}
use Rattle.std.proofs.lemmas.List.Folds.{list_all-append}
use Rattle.scaled_core.specs.Dimensions.{Within, fits}
use Rattle.scaled_core.specs.Mark as marks
use Rattle.scaled_core.specs.Mark.{Mark}
use Rattle.scaled_core.proofs.Fitting.{fits_within}
use Rattle.std.proofs.lemmas.List.Concat.{flat_map-append}
use Rattle.node_core.specs.declared.tree.Kind.{Kind}
use Rattle.node_core.specs.declared.tree.Kind.TheVariants.{Horizontal, Vertical}
use Rattle.node_core.specs.declared.tree.Node.{Node}
use Rattle.node_core.specs.declared.tree.Node.TheVariants as nodes
use Rattle.node_core.specs.declared.tree.Glyph.{Glyph}
use Rattle.node_core.specs.declared.tree.Rule.{Rule}
use Rattle.node_core.specs.declared.tree.BoxNode.{BoxNode}
use Rattle.node_core.specs.Items.{Leaf, glyph, font_kern, kern, glue, penalty, rule, special, BoxFrame, Items, none, leaf, box, items_text, text_size_in}
use Rattle.node_core.specs.Nodes.{box_of, frame_of, node_of}
use Rattle.pack_core.specs.Places.{place}
use Rattle.page_core.specs.Marks.{box_h, box_v, down_at, glyph_mark, is_huge, item_h, item_v, list_v, marks_after, marks_of_box, marks_of_item, numbers_after, numbers_at}
use Rattle.page_core.specs.Marks.{points_and_sizes, right_at, rule_below, rule_mark, rule_tall, rule_wide}
use Rattle.page_core.specs.Pages.{page_at}
use Rattle.page_core.proofs.Places.{items_fit}
use Rattle.box_items.specs.Rows.{ItemPlace, box_kind, box_row, glyph_row, kind_number, leaf_row, list_place, origin, place_after, reference_point, rows_after}
use Rattle.box_items.specs.Rows.{rows_of_box, rule_depth, rule_height, set_width_of, text_in, texts_in, wide_of, with_text}
use Rattle.box_items.specs.Shown.{HasGlyphsAcross, MayBeIn, marks_of_row, marks_of_rows, number_in}
use Rattle.box_items.proofs.Listed.{length-texts}

-- A number that is not too large is in its two words.
low_and_high : (n : ℕ) → n % 2 ^ 64 + n / 2 ^ 64 * 2 ^ 64 ≡ n
low_and_high n = omega arith

small : (z : ℤ) → Within (2 ^ 100) z → mag z < 2 ^ 127
small (pos n) within = omega (arith, ints, within.high)
small (negsuc n) within = omega (arith, ints, within.low)

words_positive : (n : ℕ) → n ≤ 2 ^ 100 → pos (n % 2 ^ 64) +ℤ (cast_signed w64 (n / 2 ^ 64) *ℤ pos (2 ^ 64)) ≡ pos n
words_positive n most =
    let high : cast_signed w64 (n / 2 ^ 64) ≡ pos (n / 2 ^ 64) = to_z_pos w64 (n / 2 ^ 64) (omega arith) in
    ap (λ (q : ℤ). pos (n % 2 ^ 64) +ℤ (q *ℤ pos (2 ^ 64))) high ∙ ap pos (low_and_high n)

negative : (q : ℕ) → 2 ^ 63 ≤ q → q < 2 ^ 64 → cast_signed w64 q ≡ negsuc (2 ^ 64 - suc q)
negative q least most = grind (arith, ints)

words_negative : (n m : ℕ) → n < 2 ^ 100 → m ≡ 2 ^ 128 - suc n → pos (m % 2 ^ 64) +ℤ (cast_signed w64 (m / 2 ^ 64) *ℤ pos (2 ^ 64)) ≡ negsuc n
words_negative n m most is =
    let parts = low_and_high m in
    let high : cast_signed w64 (m / 2 ^ 64) ≡ negsuc (2 ^ 64 - suc (m / 2 ^ 64)) = negative (m / 2 ^ 64) (omega arith) (omega arith) in
    ap (λ (q : ℤ). pos (m % 2 ^ 64) +ℤ (q *ℤ pos (2 ^ 64))) high ∙ omega (arith, ints)

pub number_is : (z : ℤ) → Within (2 ^ 100) z → number_in (wide_of z) ≡ z
unfolding wide_of
number_is (pos n) within =
    let same : int_wrap w128 (pos n) ≡ pos n = int_wrap_fits w128 (pos n) (record { sfits = small (pos n) within }) in
    ap (λ (x : ℤ). pos (cast_unsigned w128 x % 2 ^ 64) +ℤ (cast_signed w64 (cast_unsigned w128 x / 2 ^ 64) *ℤ pos (2 ^ 64))) same
    ∙ words_positive n (omega (arith, ints, within.high))
number_is (negsuc n) within =
    let same : int_wrap w128 (negsuc n) ≡ negsuc n = int_wrap_fits w128 (negsuc n) (record { sfits = small (negsuc n) within }) in
    ap (λ (x : ℤ). pos (cast_unsigned w128 x % 2 ^ 64) +ℤ (cast_signed w64 (cast_unsigned w128 x / 2 ^ 64) *ℤ pos (2 ^ 64))) same
    ∙ words_negative n (2 ^ 128 - suc n) (omega (arith, ints, within.low)) refl

-- A place from the reference point, where the place on the page fits as a dimension.
exact : (h z : ℤ) → Within (2 ^ 64) h → fits (h +ℤ z) ≡ true → number_in (wide_of z) ≡ z
exact h z near fit =
    let within = fits_within (h +ℤ z) fit in
    number_is z (record { low = omega (arith, ints, near.low, near.high, within.low, within.high); high = omega (arith, ints, near.low, near.high, within.low, within.high) })

and_left : (a b : Bool) → (a && b) ≡ true → a ≡ true
and_left true b both = refl
and_left false b both = absurd (cc)

and_right : (a b : Bool) → (a && b) ≡ true → b ≡ true
and_right true b both = both
and_right false b both = absurd (cc)

fifth : (a b c d e f : Bool) → (a && (b && (c && (d && (e && f))))) ≡ true → e ≡ true
fifth a b c d e f all = and_left e f (and_right d (e && f) (and_right c (d && (e && f)) (and_right b (c && (d && (e && f))) (and_right a (b && (c && (d && (e && f)))) all))))

-- Places on the page are places from the reference point, moved by it.
right_moved : (kind : Kind) (h x place : ℤ) → right_at kind (h +ℤ x) place ≡ h +ℤ right_at kind x place
right_moved Horizontal h x place = omega (arith, ints)
right_moved Vertical h x place = refl

down_moved : (kind : Kind) (v y place : ℤ) → down_at kind (v +ℤ y) place ≡ v +ℤ down_at kind y place
down_moved Horizontal v y place = refl
down_moved Vertical v y place = omega (arith, ints)

box_h_moved : (kind : Kind) (h x shift : ℤ) → box_h kind (h +ℤ x) shift ≡ h +ℤ box_h kind x shift
box_h_moved Horizontal h x shift = refl
box_h_moved Vertical h x shift = omega (arith, ints)

box_v_moved : (kind : Kind) (v y shift height : ℤ) → box_v kind (v +ℤ y) shift height ≡ v +ℤ box_v kind y shift height
box_v_moved Horizontal v y shift height = omega (arith, ints)
box_v_moved Vertical v y shift height = omega (arith, ints)

list_v_moved : (kind : Kind) (height v y : ℤ) → list_v kind height (v +ℤ y) ≡ v +ℤ list_v kind height y
list_v_moved Horizontal height v y = refl
list_v_moved Vertical height v y = omega (arith, ints)

-- The height plus depth of a rule.
tall : (kind : Kind) (b : BoxNode) (r : Rule) → rule_height kind b r +ℤ rule_depth kind b r ≡ rule_tall kind b r
tall Horizontal b r = refl
tall Vertical b r = refl

-- The row of a box shows nothing by itself.
module _ (h v : ℤ) (texts : List ℕ) where
  no_mark : (at : ItemPlace) (shift : ℤ) (frame : BoxFrame) → marks_of_row h v texts (box_row at shift frame) ≡ []
  no_mark at shift frame = by_kind frame.kind
    where
      by_kind : (kind : Kind) → marks_of_row h v texts (record (box_row at shift frame) { kind = kind_number (box_kind kind) }) ≡ []
      by_kind Horizontal = refl
      by_kind Vertical = refl

  glyph_shown : (kind : Kind) (at : ItemPlace) (g : Glyph) → MayBeIn kind (glyph g) → number_in (wide_of at.h) ≡ at.h → number_in (wide_of at.v) ≡ at.v
      → marks_of_row h v texts (glyph_row at g) ≡ glyph_mark kind (h +ℤ at.h) (v +ℤ at.v) g
  glyph_shown Horizontal at g may right down = ap₂ (λ (x y : ℤ). marks.Glyph (pos g.slot) (pos g.code) (h +ℤ x) (v +ℤ y) ∷ []) right down
  glyph_shown Vertical at g may right down = absurd may

  -- The row of a leaf shows its mark.
  leaf_shown :
      (b : BoxNode) (at : ItemPlace) (width next_h next_v : ℤ) (x : Leaf) → Within (2 ^ 64) h → Within (2 ^ 64) v → MayBeIn b.kind x
      → list_all fits (points_and_sizes b (h +ℤ at.h) (v +ℤ at.v) next_h next_v (node_of x)) ≡ true
      → take (length (text_in x)) (drop at.text texts) ≡ text_in x
      → marks_of_row h v texts (leaf_row b at width x) ≡ marks_of_item b (h +ℤ at.h) (v +ℤ at.v) x
  leaf_shown b at width next_h next_v (glyph g) near_h near_v may fit read =
      glyph_shown b.kind at g may (exact h at.h near_h (and_left _ _ fit)) (exact v at.v near_v (and_left _ _ (and_right _ _ fit)))
  leaf_shown b at width next_h next_v (font_kern w) near_h near_v may fit read = refl
  leaf_shown b at width next_h next_v (kern w) near_h near_v may fit read = refl
  leaf_shown b at width next_h next_v (glue g) near_h near_v may fit read = refl
  leaf_shown b at width next_h next_v (penalty p) near_h near_v may fit read = refl
  leaf_shown b at width next_h next_v (rule r) near_h near_v may fit read =
      let below = rule_below b.kind b r in
      let right = exact h at.h near_h (and_left _ _ fit) in
      let again : (v +ℤ at.v) +ℤ below ≡ v +ℤ (at.v +ℤ below) = omega (arith, ints) in
      let corner : fits ((v +ℤ at.v) +ℤ below) ≡ true = fifth (fits (h +ℤ at.h)) (fits (v +ℤ at.v)) (fits next_h) (fits next_v) (fits ((v +ℤ at.v) +ℤ below))
      (fits (rule_tall b.kind b r) && (fits (rule_wide b.kind b r) && true)) fit in
      let down = exact v (at.v +ℤ below) near_v (sym (ap fits again) ∙ corner) in
      ap₂ (λ (x y : ℤ). rule_mark (h +ℤ x) (v +ℤ y) (rule_height b.kind b r +ℤ rule_depth b.kind b r) (rule_wide b.kind b r)) right down
      ∙ ap₂ (λ (y z : ℤ). rule_mark (h +ℤ at.h) y z (rule_wide b.kind b r)) (sym again) (tall b.kind b r)
  leaf_shown b at width next_h next_v (special text) near_h near_v may fit read =
      let right = exact h at.h near_h (and_left _ _ fit) in
      let down = exact v at.v near_v (and_left _ _ (and_right _ _ fit)) in
      ap₂ (λ (x y : ℤ). marks.Special (h +ℤ x) (v +ℤ y) (take (length text) (drop at.text texts)) ∷ []) right down
      ∙ ap (λ (t : List ℕ). marks.Special (h +ℤ at.h) (v +ℤ at.v) t ∷ []) read

text_length : (x : Leaf) → length (text_in x) ≡ text_size_in x
text_length (glyph g) = refl
text_length (font_kern w) = refl
text_length (kern w) = refl
text_length (glue g) = refl
text_length (penalty p) = refl
text_length (rule r) = refl
text_length (special text) = refl

-- A text among others.
text_read : (front text rest : List ℕ) (start : ℕ) → length front ≡ start → take (length text) (drop start (front ++ (text ++ rest))) ≡ text
text_read front text rest start is = ap (take (length text)) (drop_at front (text ++ rest) start is) ∙ take_at text rest (length text) refl

regrouped : (a b c d : List ℕ) → a ++ ((b ++ c) ++ d) ≡ (a ++ b) ++ (c ++ d)
regrouped a b c d = ap (λ (t : List ℕ). a ++ t) (append_assoc b c d) ∙ sym (append_assoc a b (c ++ d))

-- The rows of items show their marks, if the numbers of these items fit.
pub rows_shown :
    (b : BoxNode) (from : ItemPlace) (before : List Node) (after : Items) (h v : ℤ) (front back : List ℕ) → Within (2 ^ 64) h → Within (2 ^ 64) v
    → length front ≡ from.text → HasGlyphsAcross b.kind after → list_all fits (numbers_after b (h +ℤ from.h) (v +ℤ from.v) before after) ≡ true
    → marks_of_rows h v (front ++ (texts_in after ++ back)) (rows_after b from before after) ≡ marks_after b (h +ℤ from.h) (v +ℤ from.v) before after
rows_shown b from before none h v front back near_h near_v start may fit = refl
rows_shown b from before (leaf x after) h v front back near_h near_v start may fit =
    let texts = front ++ ((text_in x ++ texts_in after) ++ back) in
    let at = place_after b from before in
    let right = right_moved b.kind h from.h (place b.kind b.setting before) in
    let down = down_moved b.kind v from.v (place b.kind b.setting before) in
    let next_h = item_h b (h +ℤ from.h) (before ++ node_of x ∷ []) in
    let next_v = item_v b (v +ℤ from.v) (before ++ node_of x ∷ []) in
    let here = numbers_at b (h +ℤ from.h) (v +ℤ from.v) before (node_of x) in
    let rest = numbers_after b (h +ℤ from.h) (v +ℤ from.v) (before ++ node_of x ∷ []) after in
    let both = sym (list_all-append fits here rest) ∙ fit in
    let fit_here = ap₂ (λ (p q : ℤ). list_all fits (points_and_sizes b p q next_h next_v (node_of x))) (sym right) (sym down) ∙ and_left _ _ both in
    let grouped = regrouped front (text_in x) (texts_in after) back in
    let read = ap (λ (t : List ℕ). take (length (text_in x)) (drop from.text t)) (ap (λ (t : List ℕ). front ++ t) (append_assoc (text_in x) (texts_in after) back))
    ∙ text_read front (text_in x) (texts_in after ++ back) from.text start in
    let later_start : length (front ++ text_in x) ≡ from.text + text_size_in x = length-append front (text_in x) ∙ ap₂ (λ (m n : ℕ). m + n) start (text_length x) in
    let later = rows_after b (with_text from (text_size_in x)) (before ++ node_of x ∷ []) after in
    ap₂ (λ (these those : List Mark). these ++ those)
    (leaf_shown h v texts b at (set_width_of b before (node_of x)) next_h next_v x near_h near_v may.0 fit_here read
    ∙ ap₂ (λ (p q : ℤ). marks_of_item b p q x) (sym right) (sym down))
    (ap (λ (t : List ℕ). marks_of_rows h v t later) grouped
    ∙ rows_shown b (with_text from (text_size_in x)) (before ++ node_of x ∷ []) after h v (front ++ text_in x) back near_h near_v later_start may.1
    (and_right _ _ both))
rows_shown b from before (box shift frame inner after) h v front back near_h near_v start may fit =
    let texts = front ++ ((texts_in inner ++ texts_in after) ++ back) in
    let point = reference_point b.kind (place_after b from before) shift frame in
    let begin = list_place frame point in
    let x = nodes.Box shift (box_of frame inner) in
    let page_h = item_h b (h +ℤ from.h) before in
    let page_v = item_v b (v +ℤ from.v) before in
    let right : box_h b.kind page_h shift ≡ h +ℤ begin.h =
    ap (λ (p : ℤ). box_h b.kind p shift) (right_moved b.kind h from.h (place b.kind b.setting before)) ∙ box_h_moved b.kind h (item_h b from.h before) shift in
    let down : list_v frame.kind frame.height (box_v b.kind page_v shift frame.height) ≡ v +ℤ begin.v =
    ap (λ (p : ℤ). list_v frame.kind frame.height (box_v b.kind p shift frame.height)) (down_moved b.kind v from.v (place b.kind b.setting before))
    ∙ (ap (list_v frame.kind frame.height) (box_v_moved b.kind v (item_v b from.v before) shift frame.height)
    ∙ list_v_moved frame.kind frame.height v (box_v b.kind (item_v b from.v before) shift frame.height)) in
    let here = numbers_at b (h +ℤ from.h) (v +ℤ from.v) before x in
    let inside = numbers_after (box_of frame inner) (box_h b.kind page_h shift) (list_v frame.kind frame.height (box_v b.kind page_v shift frame.height)) [] inner in
    let rest = numbers_after b (h +ℤ from.h) (v +ℤ from.v) (before ++ x ∷ []) after in
    let both = and_right _ _ (sym (list_all-append fits here (inside ++ rest)) ∙ fit) in
    let two = sym (list_all-append fits inside rest) ∙ both in
    let fit_inside = ap₂ (λ (p q : ℤ). list_all fits (numbers_after (box_of frame inner) p q [] inner)) (sym right) (sym down) ∙ and_left _ _ two in
    let inner_rows = rows_after (box_of frame inner) begin [] inner in
    let later = rows_after b (with_text from (items_text inner)) (before ++ x ∷ []) after in
    let later_start : length (front ++ texts_in inner) ≡ from.text + items_text inner = length-append front (texts_in inner) ∙ ap₂ (λ (m n : ℕ). m + n) start (length-texts inner) in
    ap₂ (λ (these those : List Mark). these ++ those) (no_mark h v texts point shift frame) (flat_map-append (marks_of_row h v texts) inner_rows later)
    ∙ ap₂ (λ (these those : List Mark). these ++ those)
    (ap (λ (t : List ℕ). marks_of_rows h v t inner_rows) (ap (λ (t : List ℕ). front ++ t) (append_assoc (texts_in inner) (texts_in after) back))
    ∙ (rows_shown (box_of frame inner) begin [] inner h v front (texts_in after ++ back) near_h near_v start may.0 fit_inside
    ∙ ap₂ (λ (p q : ℤ). marks_after (box_of frame inner) p q [] inner) (sym right) (sym down)))
    (ap (λ (t : List ℕ). marks_of_rows h v t later) (regrouped front (texts_in inner) (texts_in after) back)
    ∙ rows_shown b (with_text from (items_text inner)) (before ++ x ∷ []) after h v (front ++ texts_in inner) back near_h near_v later_start may.1
    (and_right _ _ two))

-- The rows of a box show its page.
pub page_shown :
    (b : BoxNode) (counts : List ℤ) (h v : ℤ) → Within (2 ^ 64) h → Within (2 ^ 64) v → HasGlyphsAcross b.kind b.list
    → is_huge (page_at counts h v b) ≡ false → marks_of_rows h v (texts_in b.list) (rows_of_box b) ≡ marks_of_box b h v
unfolding rows_of_box marks_of_box
page_shown b counts h v near_h near_v may small =
    let begin = list_place (frame_of b) origin in
    let right : h ≡ h +ℤ pos 0 = omega (arith, ints) in
    let down : list_v b.kind b.height v ≡ v +ℤ begin.v = ap (list_v b.kind b.height) zero ∙ list_v_moved b.kind b.height v (pos 0) in
    let texts : texts_in b.list ≡ [] ++ (texts_in b.list ++ []) = sym (append-nil (texts_in b.list)) in
    let rows = rows_after b begin [] b.list in
    let fit = ap₂ (λ (p q : ℤ). list_all fits (numbers_after b p q [] b.list)) (sym right) (sym down) ∙ items_fit (page_at counts h v b) small in
    ap (λ (these : List Mark). these ++ marks_of_rows h v (texts_in b.list) rows) (no_mark h v (texts_in b.list) origin (pos 0) (frame_of b))
    ∙ (ap (λ (t : List ℕ). marks_of_rows h v t rows) texts
    ∙ (rows_shown b begin [] b.list h v [] [] near_h near_v refl may fit ∙ ap₂ (λ (p q : ℤ). marks_after b p q [] b.list) (sym right) (sym down)))
  where
    zero : v ≡ v +ℤ pos 0
    zero = omega (arith, ints)
