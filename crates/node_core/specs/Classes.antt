-- What matters about an item when lists are broken and packed (TeX: The Program, part 10, §148: precedes_break and non_discardable; kerns of a font:
-- part 39, §866, §868 and §879; glue that shrinks in an infinite order: part 38, §825, and part 44, §976).
use Rattle.std.specs.Prelude.{ℤ, pos, negsuc, zero, suc, Bool, true, false, not, ◌&&◌}
use Rattle.node_core.specs.declared.tree.Kind.{Kind}
use Rattle.node_core.specs.declared.tree.Kind.TheVariants.{Horizontal, Vertical}
use Rattle.node_core.specs.declared.tree.Node.{Node}
use Rattle.node_core.specs.declared.tree.Node.TheVariants as nodes
use Rattle.node_core.specs.declared.tree.Order.{Order}
use Rattle.node_core.specs.declared.tree.Order.TheVariants.{Normal, Fil, Fill, Filll}
use Rattle.node_core.specs.declared.class.ItemClass.{ItemClass}
use Rattle.node_core.specs.declared.class.ItemClass.TheVariants.{BoxOrRule, GlyphOrFontKern, Glue, Kern, Penalty, Special}

-- The class of an item.
abbrev pub class_of : Node → ItemClass
class_of (nodes.Glyph glyph) = GlyphOrFontKern
class_of (nodes.FontKern width) = GlyphOrFontKern
class_of (nodes.Kern width) = Kern
class_of (nodes.Glue glue) = Glue
class_of (nodes.Penalty penalty) = Penalty
class_of (nodes.Rule rule) = BoxOrRule
class_of (nodes.Special text) = Special
class_of (nodes.Box shift b) = BoxOrRule

-- Items that are dropped at the start of a line and at the top of a page: glue, explicit kerns and penalties.
abbrev pub is_discardable : ItemClass → Bool
is_discardable BoxOrRule = false
is_discardable GlyphOrFontKern = false
is_discardable Glue = true
is_discardable Kern = true
is_discardable Penalty = true
is_discardable Special = false

-- Items after which glue is a legal break: a box, a rule or a special, and in a horizontal list also a character or a kern of a font.
abbrev pub precedes_break : Kind → ItemClass → Bool
precedes_break kind BoxOrRule = true
precedes_break Horizontal GlyphOrFontKern = true
precedes_break Vertical GlyphOrFontKern = false
precedes_break kind Glue = false
precedes_break kind Kern = false
precedes_break kind Penalty = false
precedes_break kind Special = true

-- Whether an item is a box or a rule.
abbrev pub is_box_or_rule : ItemClass → Bool
is_box_or_rule BoxOrRule = true
is_box_or_rule GlyphOrFontKern = false
is_box_or_rule Glue = false
is_box_or_rule Kern = false
is_box_or_rule Penalty = false
is_box_or_rule Special = false

-- Whether items of the class have no size and do not affect the depth of the item before them: penalties and specials.
abbrev pub is_sizeless : ItemClass → Bool
is_sizeless BoxOrRule = false
is_sizeless GlyphOrFontKern = false
is_sizeless Glue = false
is_sizeless Kern = false
is_sizeless Penalty = true
is_sizeless Special = true

-- Whether a number is 0 (own).
abbrev pub is_zero : ℤ → Bool
is_zero (pos zero) = true
is_zero (pos (suc n)) = false
is_zero (negsuc n) = false

-- Whether an order is infinite: every order except the normal one.
abbrev pub is_infinite : Order → Bool
is_infinite Normal = false
is_infinite Fil = true
is_infinite Fill = true
is_infinite Filll = true

-- Whether an item is glue that shrinks in an infinite order. A list with such glue is never broken into lines or split.
abbrev pub shrinks_infinitely : Node → Bool
shrinks_infinitely (nodes.Glue glue) = is_infinite glue.shrink_order && not (is_zero glue.shrink)
shrinks_infinitely (nodes.Glyph glyph) = false
shrinks_infinitely (nodes.FontKern width) = false
shrinks_infinitely (nodes.Kern width) = false
shrinks_infinitely (nodes.Penalty penalty) = false
shrinks_infinitely (nodes.Rule rule) = false
shrinks_infinitely (nodes.Special text) = false
shrinks_infinitely (nodes.Box shift b) = false

-- Whether the measures of a list count more of an item than the item itself: the items of a box, the text of a special (own).
abbrev pub has_content : Node → Bool
has_content (nodes.Special text) = true
has_content (nodes.Box shift b) = true
has_content (nodes.Glyph glyph) = false
has_content (nodes.FontKern width) = false
has_content (nodes.Kern width) = false
has_content (nodes.Glue glue) = false
has_content (nodes.Penalty penalty) = false
has_content (nodes.Rule rule) = false
