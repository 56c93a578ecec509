-- The items of a list as a tree, and its numbers (TeX: The Program, part 10).
use Rattle.std.specs.Prelude.{ℕ, ℤ, List, length, ◌+◌, max}
use Rattle.node_core.specs.declared.tree.Glue.{Glue}
use Rattle.node_core.specs.declared.tree.Glyph.{Glyph}
use Rattle.node_core.specs.declared.tree.Kind.{Kind}
use Rattle.node_core.specs.declared.tree.Rule.{Rule}
use Rattle.node_core.specs.declared.tree.Setting.{Setting}

-- An item without items of its own: a character of a font, a kern of a font, an explicit kern, glue, a penalty, a rule, or a special with its text
-- (TeX: The Program, parts 10 and 53).
pub data Leaf : Type 0 where
  glyph : Glyph → Leaf
  font_kern : ℤ → Leaf
  kern : ℤ → Leaf
  glue : Glue → Leaf
  penalty : ℤ → Leaf
  rule : Rule → Leaf
  special : (text : List ℕ) → Leaf

-- A box without its list: its kind, its sizes, and the setting of its glue (TeX: The Program, part 10).
pub record BoxFrame : Type 0 where
  pub kind : Kind
  pub width : ℤ
  pub height : ℤ
  pub depth : ℤ
  pub setting : Setting

-- The items of a list: none; or a leaf and the items after it; or a box, given by its shift, its frame and its own items, and the items after it
-- (own).
pub data Items : Type 0 where
  none : Items
  leaf : Leaf → Items → Items
  box : ℤ → BoxFrame → Items → Items → Items

-- The depth to which boxes nest in a list (own).
abbrev pub items_depth : Items → ℕ
items_depth none = 0
items_depth (leaf x rest) = items_depth rest
items_depth (box shift frame inner rest) = max (items_depth inner + 1) (items_depth rest)

-- The number of items in a list, including those in its boxes (own).
abbrev pub items_count : Items → ℕ
items_count none = 0
items_count (leaf x rest) = items_count rest + 1
items_count (box shift frame inner rest) = items_count inner + 1 + items_count rest

-- The number of bytes in the text of an item, if it is a special, and otherwise 0 (own).
abbrev pub text_size_in : Leaf → ℕ
text_size_in (glyph g) = 0
text_size_in (font_kern width) = 0
text_size_in (kern width) = 0
text_size_in (glue g) = 0
text_size_in (penalty p) = 0
text_size_in (rule sizes) = 0
text_size_in (special text) = length text

-- The number of bytes in the texts of the specials in a list, including those in its boxes (own).
abbrev pub items_text : Items → ℕ
items_text none = 0
items_text (leaf x rest) = items_text rest + text_size_in x
items_text (box shift frame inner rest) = items_text inner + items_text rest

-- Each leaf of a list has a property, including those in its boxes (own).
abbrev pub EachLeaf : (Leaf → Type 0) → Items → Type 0
EachLeaf P none = Unit {0}
EachLeaf P (leaf x rest) = P x × EachLeaf P rest
EachLeaf P (box shift frame inner rest) = EachLeaf P inner × EachLeaf P rest

-- A leaf has a property if it is a glyph (own).
abbrev pub IfGlyph : (Glyph → Type 0) → Leaf → Type 0
IfGlyph P (glyph g) = P g
IfGlyph P (font_kern width) = Unit {0}
IfGlyph P (kern width) = Unit {0}
IfGlyph P (glue g) = Unit {0}
IfGlyph P (penalty p) = Unit {0}
IfGlyph P (rule sizes) = Unit {0}
IfGlyph P (special text) = Unit {0}
