-- Lists whose glyphs have the sizes that their fonts give, and whose boxes are not too deep (own).
use Rattle.std.specs.Prelude.{◌≡◌, ◌≤◌, List, Option, Some, None}
use Rattle.std.specs.List.{AllByRecursion}
use Rattle.node_core.specs.declared.tree.Glyph as glyphs
use Rattle.node_core.specs.declared.tree.Node.{Node}
use Rattle.node_core.specs.declared.tree.Node.TheVariants.{Glyph, FontKern, Kern, Glue, Penalty, Rule, Special, Box}
use Rattle.node_core.specs.declared.tree.BoxNode.{BoxNode}
use Rattle.node_core.specs.Items.{Leaf, IfGlyph, EachLeaf}
use Rattle.node_core.specs.Nodes.{nodes_of, box_depth}
use Rattle.job_machine.specs.declared.OpenList.{OpenList}
use Rattle.tfm_core.specs.Slots.{Slots, font_in}
use Rattle.job_machine.specs.Private.FontSlots.{glyph_by}
use Rattle.node_core.specs.declared.limits.TheConstants.{MAX_DEPTH}
use Rattle.job_machine.specs.State.{State}

-- A glyph has the sizes of its character in the font of its slot.
abbrev pub HasSizes : Slots → glyphs.Glyph → Type 0
HasSizes fonts g = glyph_by (font_in fonts g.slot) g.code ≡ Some (record { width = g.width; height = g.height; depth = g.depth })

-- A leaf that is a glyph has the sizes of its character in the font of its slot.
abbrev pub IsSizedLeaf : Slots → Leaf → Type 0
IsSizedLeaf fonts x = IfGlyph (HasSizes fonts) x

-- The glyphs of a box, in its inner boxes too, have the sizes that their fonts give, and the box is at most `MAX_DEPTH` deep.
pub record IsSoundBox (fonts : Slots) (b : BoxNode) : Type 0 where
  pub glyphs : EachLeaf (IsSizedLeaf fonts) b.list
  pub depth : box_depth b ≤ MAX_DEPTH

-- A glyph in a list has the sizes that its font gives, and a box in it is sound: `IsSoundBox`.
abbrev pub IsSized : Slots → Node → Type 0
IsSized fonts (Glyph g) = HasSizes fonts g
IsSized fonts (FontKern width) = Unit {0}
IsSized fonts (Kern width) = Unit {0}
IsSized fonts (Glue g) = Unit {0}
IsSized fonts (Penalty p) = Unit {0}
IsSized fonts (Rule sizes) = Unit {0}
IsSized fonts (Special text) = Unit {0}
IsSized fonts (Box shift b) = IsSoundBox fonts b

-- Each glyph among these items has the sizes that its font gives, and each box among them is sound.
abbrev pub AreSized : Slots → List Node → Type 0
AreSized fonts nodes = AllByRecursion (IsSized fonts) nodes

-- The glyphs of an open list have the sizes that their fonts give, and its boxes are sound.
abbrev pub IsSizedList : Slots → OpenList → Type 0
IsSizedList fonts open_list = AreSized fonts (nodes_of open_list.list)

-- The register is void, or its box is sound.
abbrev pub IsSizedHeld : Slots → Option BoxNode → Type 0
IsSizedHeld fonts None = Unit {0}
IsSizedHeld fonts (Some b) = IsSoundBox fonts b

-- In all open lists and registers, glyphs have the sizes that their fonts give, and boxes are sound.
pub record HasSizedGlyphs (s : State) : Type 0 where
  pub nest : AllByRecursion (IsSizedList s.fonts) s.nest
  pub registers : AllByRecursion (IsSizedHeld s.fonts) s.registers
