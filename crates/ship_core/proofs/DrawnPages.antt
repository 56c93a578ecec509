-- The body of a page that is not huge shows its marks, and can be written.
use Rattle.std.proofs.Common.{◌≡◌, ◌≤◌, ◌<◌, ◌^◌, List, [], ◌∷◌, refl, ap, ◌∙◌, arith}
use Rattle.std.specs.Prelude.{ℤ, pos, ◌+ℤ◌, true, false, Some, None}
use Rattle.std.specs.List.{list_all, AllByRecursion}
use Rattle.std.proofs.lemmas.Int.{ints}
use Rattle.scaled_core.specs.Dimensions.{Within, fits}
use Rattle.node_core.specs.declared.tree.Kind.{Kind}
use Rattle.node_core.specs.declared.tree.Kind.TheVariants.{Horizontal, Vertical}
use Rattle.node_core.specs.declared.tree.BoxNode.{BoxNode}
use Rattle.node_core.specs.Items.{Leaf, glyph, font_kern, kern, glue, penalty, rule, special, Items, none, leaf, box, EachLeaf, items_depth, text_size_in, items_text}
use Rattle.dvi_ops.specs.Instruction.{Instruction}
use Rattle.scaled_core.specs.Mark as body
use Rattle.dvi_ops.specs.Body.{DviState, MoveRegisters, Widths, instruction_acts, bounded_acts}
use Rattle.scaled_core.specs.Mark.{Mark}
use Rattle.dvi_ops.specs.Forest.{flat, meaning, nests}
use Rattle.dvi_ops.specs.Fonts.{definitions_in, definitions, selection_of, selections}
use Rattle.dvi_ops.specs.Spelling.{HasSpelling}
use Rattle.dvi_ops.specs.Layout.{IsWritable}
use Rattle.scaled_core.proofs.EachOf.{all_append}
use Rattle.page_core.specs.Marks.{ShippedPage, rule_below, rule_tall, rule_wide, marks_of_item, marks_of_box, marks_of_page, page_v, numbers_after, is_huge}
use Rattle.ship_core.specs.Drawing.{body_of}
use Rattle.page_core.specs.DrawnPages.{width_in, drawn_page_of}
use Rattle.dvi_ops.specs.Plain.{NamesNoRegister}
use Rattle.ship_core.specs.Shown.{HasWidth, state_at}
use Rattle.page_core.proofs.Places.{first_of_three, second_of_three, items_fit}
use Rattle.ship_core.proofs.DrawnMarks.{EachMark, IsDrawn, IsDrawnMark, IsShort, HoldsBetween, HoldsOfAll, every_marked, all_within, drawn_marks}
use Rattle.ship_core.proofs.DrawnMarks.{drawn_writable, each_drawn, all_drawn, nests-body_of_drawn}
use Rattle.ship_core.proofs.DrawnPageLemmas.{marks-to_draw, each_rule, each_glyph, each_after, marks_drawn, few_groups}

-- The bottom and the right edge of a page that is not huge fit.
pub fits_down : (page : ShippedPage) → is_huge page ≡ false → fits (page.v +ℤ page.box_node.depth) ≡ true
unfolding is_huge
fits_down page small =
    first_of_three (fits (page.v +ℤ page.box_node.depth)) (fits (page.h +ℤ page.box_node.width))
    (list_all fits (numbers_after page.box_node page.h (page_v page) [] page.box_node.list)) small

pub fits_right : (page : ShippedPage) → is_huge page ≡ false → fits (page.h +ℤ page.box_node.width) ≡ true
unfolding is_huge
fits_right page small =
    second_of_three (fits (page.v +ℤ page.box_node.depth)) (fits (page.h +ℤ page.box_node.width))
    (list_all fits (numbers_after page.box_node page.h (page_v page) [] page.box_node.list)) small

-- The drawn marks of a page that is not huge can be drawn.
page_drawn :
    (widths : Widths) (page : ShippedPage) → is_huge page ≡ false → EachLeaf (HasWidth widths) page.box_node.list
    → EachMark (IsDrawn widths) page.box_node.kind (drawn_page_of page)
page_drawn widths page small wide =
    marks_drawn widths page.box_node page.h (page_v page) [] page.box_node.list wide
    (all_within (numbers_after page.box_node page.h (page_v page) [] page.box_node.list) (items_fit page small))

-- The body shows the marks of the page, whatever the values of w, x, y and z are at its start.
pub drawn_page :
    (widths : Widths) (held : MoveRegisters) (page : ShippedPage) → is_huge page ≡ false → EachLeaf (HasWidth widths) page.box_node.list
    → (last : DviState) × (meaning (bounded_acts (instruction_acts widths)) (body_of page) (state_at (pos 0) (pos 0) held None) ≡ Some (marks_of_page page, last))
unfolding body_of marks_of_box
drawn_page widths held page small wide =
    let shown = drawn_marks widths held page.box_node.kind (pos 0) (pos 0) None (drawn_page_of page) refl (page_drawn widths page small wide) in
    (shown.last, shown.shows ∙ ap (λ marks. Some (marks, shown.last)) (marks-to_draw page.box_node page.h (page_v page) [] page.box_node.list))

-- The number 0 is within the range of dimensions.
zero_within : Within 1073741823 (pos 0)
zero_within = record { low = omega (arith, ints); high = omega (arith, ints) }

-- The text of a special can be spelled.
HasShort : Leaf → Type 0
HasShort x = text_size_in x < 2 ^ 32

each_short : (items : Items) → items_text items < 2 ^ 32 → EachLeaf HasShort items
unfolding HasShort
each_short none few = tt
each_short (leaf x rest) few = (omega (arith, few), each_short rest (omega (arith, few)))
each_short (box shift frame inner rest) few = (each_short inner (omega (arith, few)), each_short rest (omega (arith, few)))

leaf_short : (b : BoxNode) (h v : ℤ) (x : Leaf) → HasShort x → AllByRecursion (λ mark. IsShort b.kind mark (width_in b x)) (marks_of_item b h v x)
unfolding HasShort
leaf_short b h v (glyph g) short = each_glyph (λ mark. IsShort b.kind mark g.width) b.kind h v g tt
leaf_short b h v (font_kern width) short = tt
leaf_short b h v (kern width) short = tt
leaf_short b h v (glue g) short = tt
leaf_short b h v (penalty p) short = tt
leaf_short b h v (special text) short = (short, tt)
leaf_short b h v (rule r) short =
    each_rule (λ mark. IsShort b.kind mark (rule_wide b.kind b r)) h (v +ℤ rule_below b.kind b r) (rule_tall b.kind b r) (rule_wide b.kind b r) tt

short_page : (page : ShippedPage) → items_text page.box_node.list < 2 ^ 32 → EachMark IsShort page.box_node.kind (drawn_page_of page)
short_page page few =
    each_after IsShort HasShort leaf_short page.box_node page.h (page_v page) [] page.box_node.list (each_short page.box_node.list few)

-- The body can be written.
pub writable_page :
    (widths : Widths) (page : ShippedPage) → is_huge page ≡ false → EachLeaf (HasWidth widths) page.box_node.list → items_text page.box_node.list < 2 ^ 32
    → AllByRecursion IsWritable (flat (body_of page))
unfolding body_of
writable_page widths page small wide few =
    drawn_writable widths page.box_node.kind (pos 0) (pos 0) None (drawn_page_of page) zero_within zero_within (page_drawn widths page small wide)
    (short_page page few)

-- A property of all that is made for pages is one of each instruction of a body, where the texts of its specials can be spelled.
pub each_page : (P : Instruction → Type 0) → HoldsOfAll P → (page : ShippedPage) → items_text page.box_node.list < 2 ^ 32 → AllByRecursion P (flat (body_of page))
unfolding body_of
each_page P holds page few = all_drawn P holds page.box_node.kind (pos 0) (pos 0) None (drawn_page_of page) (short_page page few)

-- A property of all that is made for pages, whatever the texts of specials, is one of each instruction of a body.
pub whole_page :
    (P : Instruction → Type 0) → HoldsBetween P → ((kind : Kind) (mark : Mark) (by : ℤ) → IsDrawnMark P kind mark by) → (page : ShippedPage)
    → AllByRecursion P (flat (body_of page))
unfolding body_of
whole_page P between all page =
    each_drawn P between page.box_node.kind (pos 0) (pos 0) None (drawn_page_of page)
    (every_marked (IsDrawnMark P) all page.box_node.kind (drawn_page_of page))

-- No instruction uses w, x, y or z.
pub no_register_page : (page : ShippedPage) → AllByRecursion NamesNoRegister (flat (body_of page))
no_register_page page =
    whole_page NamesNoRegister (record { moves = λ axis z. tt; push = tt; pop = tt }) plain page
  where
    plain : (kind : Kind) (mark : Mark) (by : ℤ) → IsDrawnMark NamesNoRegister kind mark by
    plain Horizontal (body.Rule x y height width) by = tt
    plain Vertical (body.Rule x y height width) by = tt
    plain kind (body.Glyph font code x y) by = (tt, tt)
    plain kind (body.Special x y text) by = tt

-- Each instruction can be spelled, whether the page is huge or not, where the texts of specials can be.
pub spelled_page : (page : ShippedPage) → items_text page.box_node.list < 2 ^ 32 → AllByRecursion HasSpelling (flat (body_of page))
spelled_page page few =
    each_page HasSpelling (
    record {
      between = record { moves = λ axis z. tt; push = tt; pop = tt };
      fonts = λ font. tt;
      chars = λ code. tt;
      set_rules = λ height width. tt;
      put_rules = λ height width. tt;
      specials = λ text short. short;
    }
    ) page few

-- The body of a page defines no font.
none_defined : (is : List Instruction) → AllByRecursion (λ i. definitions_in i ≡ []) is → definitions is ≡ []
none_defined [] all = refl
none_defined (i ∷ is) (here, all) = rw (here) (none_defined is all)

pub definitions-page : (page : ShippedPage) → definitions (flat (body_of page)) ≡ []
definitions-page page =
    none_defined (flat (body_of page)) (
    whole_page (λ i. definitions_in i ≡ []) (record { moves = λ axis z. refl; push = refl; pop = refl }) undefined page
    )
  where
    undefined : (kind : Kind) (mark : Mark) (by : ℤ) → IsDrawnMark (λ i. definitions_in i ≡ []) kind mark by
    undefined Horizontal (body.Rule x y height width) by = refl
    undefined Vertical (body.Rule x y height width) by = refl
    undefined kind (body.Glyph font code x y) by = (refl, refl)
    undefined kind (body.Special x y text) by = refl

-- The groups of the body nest less deep than the box.
pub nests_page : (page : ShippedPage) → nests (body_of page) ≤ items_depth page.box_node.list
unfolding body_of
nests_page page =
    omega (
      arith,
      nests-body_of_drawn page.box_node.kind (pos 0) (pos 0) None (drawn_page_of page),
      few_groups page.box_node page.h (page_v page) [] page.box_node.list,
    )

-- A property of a glyph's font.
abbrev pub HasFont : (ℤ → Type 0) → Leaf → Type 0
HasFont P (glyph g) = P (pos g.slot)
HasFont P (font_kern width) = Unit {0}
HasFont P (kern width) = Unit {0}
HasFont P (glue g) = Unit {0}
HasFont P (penalty p) = Unit {0}
HasFont P (special text) = Unit {0}
HasFont P (rule sizes) = Unit {0}

-- A property of the fonts that an instruction selects.
abbrev pub Selects : (ℤ → Type 0) → Instruction → Type 0
Selects P i = AllByRecursion P (selection_of i)

all_selections : (P : ℤ → Type 0) (is : List Instruction) → AllByRecursion (Selects P) is → AllByRecursion P (selections is)
all_selections P [] all = tt
all_selections P (i ∷ is) (here, all) = all_append P (selection_of i) (selections is) here (all_selections P is all)

rule_selects : (P : ℤ → Type 0) (kind : Kind) (h v height width by : ℤ) → IsDrawnMark (Selects P) kind (body.Rule h v height width) by
rule_selects P Horizontal h v height width by = tt
rule_selects P Vertical h v height width by = tt

leaf_selects : (P : ℤ → Type 0) (b : BoxNode) (h v : ℤ) (x : Leaf) → HasFont P x
    → AllByRecursion (λ mark. IsDrawnMark (Selects P) b.kind mark (width_in b x)) (marks_of_item b h v x)
leaf_selects P b h v (glyph g) here = each_glyph (λ mark. IsDrawnMark (Selects P) b.kind mark g.width) b.kind h v g ((here, tt), tt)
leaf_selects P b h v (font_kern width) here = tt
leaf_selects P b h v (kern width) here = tt
leaf_selects P b h v (glue g) here = tt
leaf_selects P b h v (penalty p) here = tt
leaf_selects P b h v (special text) here = (tt, tt)
leaf_selects P b h v (rule r) here =
    each_rule (λ mark. IsDrawnMark (Selects P) b.kind mark (rule_wide b.kind b r)) h (v +ℤ rule_below b.kind b r) (rule_tall b.kind b r)
    (rule_wide b.kind b r)
    (rule_selects P b.kind h (v +ℤ rule_below b.kind b r) (rule_tall b.kind b r) (rule_wide b.kind b r) (rule_wide b.kind b r))

-- Each selected font is the font of a glyph of the box.
pub selections_page :
    (P : ℤ → Type 0) (page : ShippedPage) → EachLeaf (HasFont P) page.box_node.list
    → AllByRecursion P (selections (flat (body_of page)))
unfolding body_of
selections_page P page all =
    all_selections P (flat (body_of page)) (
    each_drawn (Selects P) (record { moves = λ axis z. tt; push = tt; pop = tt }) page.box_node.kind (pos 0) (pos 0) None (drawn_page_of page)
    (each_after (IsDrawnMark (Selects P)) (HasFont P) (leaf_selects P) page.box_node page.h (page_v page) [] page.box_node.list all)
    )
