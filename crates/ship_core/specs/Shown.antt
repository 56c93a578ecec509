-- What the plan of a page shows, stated by the meaning of DVI instructions alone (own, over `meaning`, `instruction_acts` and `bounded_acts` of
-- dvi_ops: DVItype, 13 to
-- 20).
use Rattle.std.specs.Prelude.{◌≡◌, ◌<◌, ◌≤◌, ◌^◌, ℤ, pos, false, Option, Some, None}
use Rattle.std.specs.List.{AllByRecursion}
use Rattle.node_core.specs.Items.{Leaf, glyph, font_kern, kern, glue, penalty, rule, special, EachLeaf, items_depth, items_text}
use Rattle.dvi_ops.specs.Body.{DviState, MoveRegisters, Widths, instruction_acts, bounded_acts}
use Rattle.dvi_ops.specs.Forest.{flat, meaning, nests}
use Rattle.dvi_ops.specs.Layout.{IsWritable}
use Rattle.dvi_ops.specs.Plain.{NamesNoRegister}
use Rattle.page_core.specs.Marks.{ShippedPage, marks_of_page, is_huge}
use Rattle.ship_core.specs.Drawing.{body_of}

-- The width of a glyph is that of the table, and its slot and its code are bytes.
abbrev pub HasWidth : Widths → Leaf → Type 0
HasWidth widths (glyph g) = (widths (pos g.slot) (pos g.code) ≡ Some g.width) × ((g.slot < 256) × (g.code < 256))
HasWidth widths (font_kern width) = Unit {0}
HasWidth widths (kern width) = Unit {0}
HasWidth widths (glue g) = Unit {0}
HasWidth widths (penalty p) = Unit {0}
HasWidth widths (rule sizes) = Unit {0}
HasWidth widths (special text) = Unit {0}

-- A state with this place, these registers, and this font.
abbrev pub state_at : (h v : ℤ) → MoveRegisters → Option ℤ → DviState
state_at h v held font = record { place = record { h = h; v = v; held = held }; font = font }

-- The body of a page shows the marks of the page and nothing else, from (0, 0), without a font, and whatever the values of w, x, y and z are. The
-- values of h and v stay within signed 32 bits.
abbrev pub ShowsItsMarks : Type 0
ShowsItsMarks =
    (widths : Widths) (held : MoveRegisters) (page : ShippedPage) → is_huge page ≡ false → EachLeaf (HasWidth widths) page.box_node.list
    → (last : DviState) × (meaning (bounded_acts (instruction_acts widths)) (body_of page) (state_at (pos 0) (pos 0) held None)
    ≡ Some (marks_of_page page, last))

-- Each instruction of the body of a page can be written, where the texts of its specials have fewer than 2^32 bytes in total.
abbrev pub CanBeWritten : Type 0
CanBeWritten =
    (widths : Widths) (page : ShippedPage) → is_huge page ≡ false → EachLeaf (HasWidth widths) page.box_node.list
    → items_text page.box_node.list < 2 ^ 32
    → AllByRecursion IsWritable (flat (body_of page))

-- No instruction of the body uses w, x, y or z, whatever the page.
abbrev pub IsDrawnPlainly : Type 0
IsDrawnPlainly = (page : ShippedPage) → AllByRecursion NamesNoRegister (flat (body_of page))

-- The groups of the body nest less deep than the box, whatever the page.
abbrev pub NestsAsItsBox : Type 0
NestsAsItsBox = (page : ShippedPage) → nests (body_of page) ≤ items_depth page.box_node.list
