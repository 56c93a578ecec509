-- The widths of the glyphs of a job, and the font files that they come from (own; TeX: The Program, part 30).
use Rattle.std.specs.Prelude.{◌≡◌, ℤ, pos, Option, Some}
use Rattle.tfm_core.specs.FileWidths.{file_widths}
use Rattle.node_core.specs.declared.tree.Glyph.{Glyph}
use Rattle.node_core.specs.Items.{Leaf, IfGlyph, EachLeaf}
use Rattle.tfm_core.specs.declared.slots.LoadedFont.{LoadedFont}
use Rattle.tfm_core.specs.Slots.{font_in}
use Rattle.page_core.specs.Marks.{ShippedPage}
use Rattle.job_machine.specs.State.{State}

-- The slot of a glyph has a font, for whose name and size the font files give widths; and the glyph has the width of its character.
pub record HasFileWidth (s : State) (g : Glyph) : Type 0 where
  pub loaded : LoadedFont
  pub slot : font_in s.fonts g.slot ≡ Some loaded
  pub widths : ℤ → Option ℤ
  pub given : file_widths s.files loaded.name loaded.font.size ≡ Some widths
  pub width : widths (pos g.code) ≡ Some g.width

-- A leaf that is a glyph has the width that the font files give its character.
abbrev pub IsMeasured : State → Leaf → Type 0
IsMeasured s x = IfGlyph (HasFileWidth s) x

-- Each glyph of a page, in its inner boxes too, has the width that the font files give its character.
abbrev pub IsMeasuredPage : State → ShippedPage → Type 0
IsMeasuredPage s page = EachLeaf (IsMeasured s) page.box_node.list
