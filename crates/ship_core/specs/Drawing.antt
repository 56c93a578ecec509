-- How the writer draws the marks of a page (own).
use Rattle.std.specs.Prelude.{◌+ℤ◌, ◌-ℤ◌, ℤ, pos, negsuc, zero, suc, if◌then◌else◌, Option, Some, None}
use Rattle.std.specs.Ordering.{int_eq}
use Rattle.node_core.specs.declared.tree.Kind.{Kind}
use Rattle.node_core.specs.declared.tree.Kind.TheVariants.{Horizontal, Vertical}
use Rattle.dvi_ops.specs.Instruction as instructions
use Rattle.dvi_ops.specs.Instruction.{Axis, Across, Downward, By, Move, SetChar, SetRule, PutRule, FontNum, Xxx}
use Rattle.scaled_core.specs.Mark.{Glyph, Rule, Special}
use Rattle.dvi_ops.specs.Forest.{Forest, Empty, Then, Group}
use Rattle.page_core.specs.Marks.{ShippedPage}
use Rattle.page_core.specs.DrawnPages.{DrawnPage, blank, marked, group, after_rule, drawn_page_of}

-- A movement by an amount, where it is not 0.
abbrev pub moved_by : Axis → ℤ → Forest → Forest
moved_by axis (pos zero) rest = rest
moved_by axis (pos (suc n)) rest = Then (Move axis (By (pos (suc n)))) rest
moved_by axis (negsuc n) rest = Then (Move axis (By (negsuc n))) rest

-- The selection of a font, where it is not the current one.
abbrev pub selection_before : (current : Option ℤ) → (font : ℤ) → Forest → Forest
selection_before None font rest = Then (FontNum font) rest
selection_before (Some current) font rest = if int_eq font current then rest else Then (FontNum font) rest

-- The instruction for a rule: in a horizontal list it moves to the right by its width, in a vertical one it moves nothing.
abbrev pub rule_leaf : Kind → (height width : ℤ) → instructions.BodyLeaf
rule_leaf Horizontal height width = SetRule height width
rule_leaf Vertical height width = PutRule height width

-- The font after a drawn page, where `current` is the font before it.
abbrev pub font_after : (current : Option ℤ) → DrawnPage → Option ℤ
font_after current blank = current
font_after current (marked (Rule x y height width) by rest) = font_after current rest
font_after current (marked (Glyph font code x y) by rest) = font_after (Some font) rest
font_after current (marked (Special x y text) by rest) = font_after current rest
font_after current (group kind inner rest) = font_after (font_after current inner) rest

-- The body that draws what is drawn of a list of that kind, where (h, v) is the place and `current` the font. Before each mark come the movements
-- right
-- and down to it, and before a glyph its font, unless it is the current one. A box is drawn between push and pop, from the current place; after it
-- the place is the one before it, and the font stays.
abbrev pub body_of_drawn : Kind → (h v : ℤ) → (current : Option ℤ) → DrawnPage → Forest
body_of_drawn kind h v current blank = Empty
body_of_drawn kind h v current (marked (Rule x y height width) by rest) =
    moved_by Across (x -ℤ h)
    (moved_by Downward (y -ℤ v) (Then (rule_leaf kind height width) (body_of_drawn kind (after_rule kind x width) y current rest)))
body_of_drawn kind h v current (marked (Glyph font code x y) by rest) =
    moved_by Across (x -ℤ h)
    (moved_by Downward (y -ℤ v) (selection_before current font (Then (SetChar code) (body_of_drawn kind (x +ℤ by) y (Some font) rest))))
body_of_drawn kind h v current (marked (Special x y text) by rest) =
    moved_by Across (x -ℤ h) (moved_by Downward (y -ℤ v) (Then (Xxx text) (body_of_drawn kind x y current rest)))
body_of_drawn kind h v current (group own inner rest) =
    Group (body_of_drawn own h v current inner) (body_of_drawn kind h v (font_after current inner) rest)

-- The body of a page, from its origin and without a font.
unfoldable pub body_of : ShippedPage → Forest
body_of page = body_of_drawn page.box_node.kind (pos 0) (pos 0) None (drawn_page_of page)
