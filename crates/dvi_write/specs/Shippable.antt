-- The pages that may be written, which is a condition on the callers of the writer (own; the widths: TeX: The Program, part 30; DVItype, 18).
use Rattle.std.specs.Prelude.{◌≡◌, ◌≤◌, ℕ, ℤ, pos, negsuc, false, length, Option, Some, None}
use Rattle.std.specs.List.{AllByRecursion}
use Rattle.tfm_core.specs.FileWidths.{width_at}
use Rattle.node_core.specs.declared.tree.BoxNode.{BoxNode}
use Rattle.node_core.specs.Items.{EachLeaf}
use Rattle.node_core.specs.Nodes.{box_depth, box_text}
use Rattle.dvi_ops.specs.Body.{Widths}
use Rattle.dvi_ops.specs.Fonts.{WidthsByName, width_in}
use Rattle.dvi_ops.specs.Spelling.{NumberFits}
use Rattle.page_core.specs.Marks.{ShippedPage, is_huge}
use Rattle.ship_core.specs.Shown.{HasWidth}
use Rattle.tfm_core.specs.declared.slots.LoadedFont.{LoadedFont}
use Rattle.node_core.specs.declared.limits.TheConstants.{MAX_DEPTH, MAX_SHIPPED_TEXT}
use Rattle.tfm_core.specs.Slots.{Slots, font_in}

-- The widths of the characters of a font, if there is one.
abbrev pub slot_font_widths : Option LoadedFont → Option (ℤ → Option ℤ)
slot_font_widths None = None
slot_font_widths (Some loaded) = Some (width_at loaded.font)

-- The width of each character of the font in each slot.
abbrev pub slot_widths : Slots → Widths
slot_widths fonts (pos slot) c = width_in (slot_font_widths (font_in fonts slot)) c
slot_widths fonts (negsuc n) c = None

-- A box is at most `MAX_DEPTH` deep, and each glyph in it, inner boxes included, has the width of its character in the font of its slot.
pub record IsShippable (fonts : Slots) (b : BoxNode) : Type 0 where
  pub glyphs : EachLeaf (HasWidth (slot_widths fonts)) b.list
  pub depth : box_depth b ≤ MAX_DEPTH

-- A page that was written: it has ten counts that fit four bytes each, is not huge, and its box may be shipped.
pub record IsRightPage (fonts : Slots) (page : ShippedPage) : Type 0 where
  pub ten : length page.counts ≡ 10
  pub counts_fit : AllByRecursion NumberFits page.counts
  pub small : is_huge page ≡ false
  pub text : box_text page.box_node ≤ MAX_SHIPPED_TEXT
  pub sound : IsShippable fonts page.box_node

-- Metrics that give the widths of these fonts, each by its name and its size.
abbrev pub GivesFonts : WidthsByName → Slots → Type 0
GivesFonts metrics fonts = (slot : ℕ) (loaded : LoadedFont) → font_in fonts slot ≡ Some loaded
    → metrics loaded.name loaded.font.size ≡ Some (width_at loaded.font)
