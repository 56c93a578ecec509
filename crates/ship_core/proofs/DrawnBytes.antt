-- The greatest number of bytes that the body of a page takes.
use Rattle.std.proofs.Common.{◌≡◌, ℕ, zero, suc, ◌+◌, ◌*◌, ◌<◌, ◌≤◌, [], ◌∷◌, ◌++◌, length, refl, arith, length-append}
use Rattle.std.specs.Prelude.{ℤ, pos, negsuc, ◌+ℤ◌, ◌-ℤ◌, Bool, true, false, nat_lt, if◌then◌else◌, Option, Some, None}
use Rattle.std.specs.List.{AllByRecursion}
use Rattle.std.specs.Ordering.{int_eq}
use Rattle.std.proofs.lemmas.Bool.{lt-ltb}
use Rattle.node_core.specs.declared.tree.Kind.{Kind}
use Rattle.node_core.specs.declared.tree.Kind.TheVariants.{Horizontal, Vertical}
use Rattle.node_core.specs.declared.tree.BoxNode.{BoxNode}
use Rattle.node_core.specs.Items.{Leaf, glyph, font_kern, kern, glue, penalty, rule, special, EachLeaf, items_count, items_text}
use Rattle.dvi_ops.specs.Instruction.{Axis, Across, Downward, By, Move, SetChar, SetRule, PutRule, FontNum, Xxx, Do, Push, Pop}
use Rattle.scaled_core.specs.Mark as body
use Rattle.dvi_ops.specs.Body.{Widths}
use Rattle.scaled_core.specs.Mark.{Mark}
use Rattle.dvi_ops.specs.Forest.{Forest, Then, flat}
use Rattle.dvi_ops.specs.Spelling.{operand, code_size, char_spelling, font_spelling, spelling, leaf_spelling}
use Rattle.dvi_ops.specs.Layout.{bytes_of}
use Rattle.dvi_ops.proofs.Layouts.{length-bytes_of-append}
use Rattle.dvi_ops.proofs.Spelled.{operand_length}
use Rattle.dvi_ops.proofs.Shortest.{brief_length, special_length, movement_length, one_byte}
use Rattle.page_core.specs.Marks.{ShippedPage, rule_below, rule_tall, rule_wide, marks_of_item, page_v}
use Rattle.ship_core.specs.Drawing.{moved_by, selection_before, rule_leaf, font_after, body_of_drawn, body_of}
use Rattle.page_core.specs.DrawnPages.{DrawnPage, blank, marked, group, width_in, after_rule, drawn_page_of}
use Rattle.ship_core.specs.Shown.{HasWidth}
use Rattle.ship_core.proofs.DrawnMarks.{EachMark, IsByte}
use Rattle.ship_core.proofs.DrawnPageLemmas.{parts, texts, each_rule, each_glyph, each_after, few_parts, few_texts}

moved_bytes : (axis : Axis) (z : ℤ) (rest : Forest) → length (bytes_of (flat (moved_by axis z rest))) ≤ 5 + length (bytes_of (flat rest))
moved_bytes axis (pos zero) rest = omega arith
moved_bytes axis (pos (suc n)) rest =
    omega (arith, length-append (spelling (Do (Move axis (By (pos (suc n)))))) (bytes_of (flat rest)), movement_length axis (By (pos (suc n))))
moved_bytes axis (negsuc n) rest =
    omega (arith, length-append (spelling (Do (Move axis (By (negsuc n))))) (bytes_of (flat rest)), movement_length axis (By (negsuc n)))

length-rule : (kind : Kind) (height width : ℤ) → length (spelling (Do (rule_leaf kind height width))) ≤ 9
length-rule Horizontal height width = brief_length (SetRule height width) tt
length-rule Vertical height width = brief_length (PutRule height width) tt

-- The number of a font or of a character, where it is a byte, takes one byte.
byte_size : (n : ℕ) → n < 256 → code_size (pos n) ≡ 1
unfolding code_size
byte_size n small = rw (lt-ltb n 256 small) refl

length-char : (code : ℤ) → IsByte code → length (spelling (Do (SetChar code))) ≤ 2
unfolding spelling leaf_spelling char_spelling
length-char (negsuc n) small = absurd small
length-char (pos n) small = by_test (nat_lt n 128)
  where
    by_test : (short : Bool) → length (if short then n ∷ [] else (127 + code_size (pos n)) ∷ operand (code_size (pos n)) (pos n)) ≤ 2
    by_test true = omega arith
    by_test false = omega (arith, operand_length (code_size (pos n)) (pos n), byte_size n small)

length-font : (font : ℤ) → IsByte font → length (spelling (Do (FontNum font))) ≤ 2
unfolding spelling leaf_spelling font_spelling
length-font (negsuc n) small = absurd small
length-font (pos n) small = by_test (nat_lt n 64)
  where
    by_test : (short : Bool) → length (if short then (171 + n) ∷ [] else (234 + code_size (pos n)) ∷ operand (code_size (pos n)) (pos n)) ≤ 2
    by_test true = omega arith
    by_test false = omega (arith, operand_length (code_size (pos n)) (pos n), byte_size n small)

selected_bytes :
    (current : Option ℤ) (font : ℤ) (rest : Forest) → IsByte font → length (bytes_of (flat (selection_before current font rest))) ≤ 2 + length (bytes_of (flat rest))
selected_bytes None font rest small = omega (arith, length-append (spelling (Do (FontNum font))) (bytes_of (flat rest)), length-font font small)
selected_bytes (Some current) font rest small = by_test (int_eq font current)
  where
    by_test : (same : Bool) → length (bytes_of (flat (if same then rest else Then (FontNum font) rest))) ≤ 2 + length (bytes_of (flat rest))
    by_test true = omega arith
    by_test false = omega (arith, length-append (spelling (Do (FontNum font))) (bytes_of (flat rest)), length-font font small)

-- The font and the character of a drawn mark are bytes.
abbrev pub IsOfBytes : Kind → Mark → (by : ℤ) → Type 0
IsOfBytes kind (body.Rule x y height width) by = Unit {0}
IsOfBytes kind (body.Glyph font code x y) by = IsByte font × IsByte code
IsOfBytes kind (body.Special x y text) by = Unit {0}

-- A drawn mark takes at most 19 bytes and the text of its special, and a group takes 2 bytes more than its contents.
pub drawing_bytes :
    (kind : Kind) (h v : ℤ) (current : Option ℤ) (p : DrawnPage) → EachMark IsOfBytes kind p
    → length (bytes_of (flat (body_of_drawn kind h v current p))) ≤ 19 * parts p + texts p
drawing_bytes kind h v current blank all = omega arith
drawing_bytes kind h v current (marked (body.Rule x y height width) by rest) (here, all) =
    let others = body_of_drawn kind (after_rule kind x width) y current rest in
    let mark_kind = Then (rule_leaf kind height width) others in
    omega (
      arith,
      moved_bytes Across (x -ℤ h) (moved_by Downward (y -ℤ v) mark_kind),
      moved_bytes Downward (y -ℤ v) mark_kind,
      length-append (spelling (Do (rule_leaf kind height width))) (bytes_of (flat others)),
      length-rule kind height width,
      drawing_bytes kind (after_rule kind x width) y current rest all,
    )
drawing_bytes kind h v current (marked (body.Glyph font code x y) by rest) (here, all) =
    let others = body_of_drawn kind (x +ℤ by) y (Some font) rest in
    let mark_kind = Then (SetChar code) others in
    omega (
      arith,
      moved_bytes Across (x -ℤ h) (moved_by Downward (y -ℤ v) (selection_before current font mark_kind)),
      moved_bytes Downward (y -ℤ v) (selection_before current font mark_kind),
      selected_bytes current font mark_kind here.0,
      length-append (spelling (Do (SetChar code))) (bytes_of (flat others)),
      length-char code here.1,
      drawing_bytes kind (x +ℤ by) y (Some font) rest all,
    )
drawing_bytes kind h v current (marked (body.Special x y text) by rest) (here, all) =
    let others = body_of_drawn kind x y current rest in
    let mark_kind = Then (Xxx text) others in
    omega (
      arith,
      moved_bytes Across (x -ℤ h) (moved_by Downward (y -ℤ v) mark_kind),
      moved_bytes Downward (y -ℤ v) mark_kind,
      length-append (spelling (Do (Xxx text))) (bytes_of (flat others)),
      special_length text,
      drawing_bytes kind x y current rest all,
    )
drawing_bytes kind h v current (group own inner rest) (within, all) =
    let first = flat (body_of_drawn own h v current inner) in
    let others = flat (body_of_drawn kind h v (font_after current inner) rest) in
    omega (
      arith,
      length-append (spelling Push) (bytes_of (first ++ Pop ∷ others)),
      length-bytes_of-append first (Pop ∷ others),
      length-append (spelling Pop) (bytes_of others),
      one_byte.1,
      one_byte.2,
      drawing_bytes own h v current inner within,
      drawing_bytes kind h v (font_after current inner) rest all,
    )

-- The drawn marks of a leaf whose font and character are bytes.
leaf_bytes :
    (widths : Widths) (b : BoxNode) (h v : ℤ) (x : Leaf) → HasWidth widths x → AllByRecursion (λ mark. IsOfBytes b.kind mark (width_in b x)) (marks_of_item b h v x)
leaf_bytes widths b h v (glyph g) (wide, small) = each_glyph (λ mark. IsOfBytes b.kind mark g.width) b.kind h v g small
leaf_bytes widths b h v (font_kern width) wide = tt
leaf_bytes widths b h v (kern width) wide = tt
leaf_bytes widths b h v (glue g) wide = tt
leaf_bytes widths b h v (penalty p) wide = tt
leaf_bytes widths b h v (special text) wide = (tt, tt)
leaf_bytes widths b h v (rule r) wide =
    each_rule (λ mark. IsOfBytes b.kind mark (rule_wide b.kind b r)) h (v +ℤ rule_below b.kind b r) (rule_tall b.kind b r) (rule_wide b.kind b r) tt

-- The body of a page takes at most 19 bytes for each item of its box, those of inner boxes included, and the texts of its specials.
pub body_bytes :
    (widths : Widths) (page : ShippedPage) → EachLeaf (HasWidth widths) page.box_node.list
    → length (bytes_of (flat (body_of page))) ≤ 19 * items_count page.box_node.list + items_text page.box_node.list
unfolding body_of
body_bytes widths page all =
    let b = page.box_node in
    omega (
      arith,
      drawing_bytes b.kind (pos 0) (pos 0) None (drawn_page_of page)
          (each_after IsOfBytes (HasWidth widths) (leaf_bytes widths) b page.h (page_v page) [] b.list all),
      few_parts b page.h (page_v page) [] b.list,
      few_texts b page.h (page_v page) [] b.list,
    )
