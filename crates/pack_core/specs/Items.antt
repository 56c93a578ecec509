-- What an item adds to the list that contains it (TeX: The Program, part 33, §651 to §656 and §669 to §671).
use Rattle.std.specs.Prelude.{◌+ℤ◌, ◌-ℤ◌, ℤ, pos, Bool, true, false, if◌then◌else◌}
use Rattle.node_core.specs.declared.tree.Kind.{Kind}
use Rattle.node_core.specs.declared.tree.Kind.TheVariants.{Horizontal, Vertical}
use Rattle.node_core.specs.declared.tree.Order.{Order}
use Rattle.node_core.specs.declared.tree.Order.TheVariants.{Normal, Fil, Fill, Filll}
use Rattle.node_core.specs.declared.tree.Node.{Node}
use Rattle.node_core.specs.declared.tree.Node.TheVariants as nodes
use Rattle.node_core.specs.Classes as classes
use Rattle.node_core.specs.Classes.{class_of, is_box_or_rule}
use Rattle.node_core.specs.declared.tree.RuleSize.{RuleSize}
use Rattle.node_core.specs.declared.tree.RuleSize.TheVariants.{Running, Fixed}

-- The size of a rule that counts when its list is packed: a running size counts as 0.
abbrev pub own_size : RuleSize → ℤ
own_size Running = pos 0
own_size (Fixed size) = size

-- The width of an item, which is its advance in a horizontal list.
abbrev pub item_width : Node → ℤ
item_width (nodes.Glyph glyph) = glyph.width
item_width (nodes.FontKern width) = width
item_width (nodes.Kern width) = width
item_width (nodes.Glue glue) = glue.width
item_width (nodes.Penalty penalty) = pos 0
item_width (nodes.Special text) = pos 0
item_width (nodes.Rule rule) = own_size rule.width
item_width (nodes.Box shift b) = b.width

-- The height of an item above the baseline; for a box, minus its shift down.
abbrev pub height_above_baseline : Node → ℤ
height_above_baseline (nodes.Glyph glyph) = glyph.height
height_above_baseline (nodes.FontKern width) = pos 0
height_above_baseline (nodes.Kern width) = pos 0
height_above_baseline (nodes.Glue glue) = pos 0
height_above_baseline (nodes.Penalty penalty) = pos 0
height_above_baseline (nodes.Special text) = pos 0
height_above_baseline (nodes.Rule rule) = own_size rule.height
height_above_baseline (nodes.Box shift b) = b.height -ℤ shift

-- The depth of an item below the baseline; for a box, plus its shift down.
abbrev pub depth_below_baseline : Node → ℤ
depth_below_baseline (nodes.Glyph glyph) = glyph.depth
depth_below_baseline (nodes.FontKern width) = pos 0
depth_below_baseline (nodes.Kern width) = pos 0
depth_below_baseline (nodes.Glue glue) = pos 0
depth_below_baseline (nodes.Penalty penalty) = pos 0
depth_below_baseline (nodes.Special text) = pos 0
depth_below_baseline (nodes.Rule rule) = own_size rule.depth
depth_below_baseline (nodes.Box shift b) = b.depth +ℤ shift

-- The advance of an item in a vertical list: height plus depth for a rule or a box, and the width for glue and kerns. Characters do not occur in
-- vertical lists.
abbrev pub downward : Node → ℤ
downward (nodes.Glyph glyph) = pos 0
downward (nodes.FontKern width) = width
downward (nodes.Kern width) = width
downward (nodes.Glue glue) = glue.width
downward (nodes.Penalty penalty) = pos 0
downward (nodes.Special text) = pos 0
downward (nodes.Rule rule) = own_size rule.height +ℤ own_size rule.depth
downward (nodes.Box shift b) = b.height +ℤ b.depth

-- The distance to the right edge of an item of a vertical list; for a box, plus its shift to the right.
abbrev pub breadth : Node → ℤ
breadth (nodes.Glyph glyph) = pos 0
breadth (nodes.FontKern width) = pos 0
breadth (nodes.Kern width) = pos 0
breadth (nodes.Glue glue) = pos 0
breadth (nodes.Penalty penalty) = pos 0
breadth (nodes.Special text) = pos 0
breadth (nodes.Rule rule) = own_size rule.width
breadth (nodes.Box shift b) = b.width +ℤ shift

-- The advance of an item, by the kind of its list.
abbrev pub advance : Kind → Node → ℤ
advance Horizontal node = item_width node
advance Vertical node = downward node

-- Whether two orders of glue are the same (own).
abbrev pub is_order : Order → Order → Bool
is_order Normal Normal = true
is_order Fil Fil = true
is_order Fill Fill = true
is_order Filll Filll = true
is_order a b = false

-- How much an item can stretch in an order: only glue of this order can.
abbrev pub stretch_in : Order → Node → ℤ
stretch_in order (nodes.Glue glue) = if is_order order glue.stretch_order then glue.stretch else pos 0
stretch_in order (nodes.Glyph glyph) = pos 0
stretch_in order (nodes.FontKern width) = pos 0
stretch_in order (nodes.Kern width) = pos 0
stretch_in order (nodes.Penalty penalty) = pos 0
stretch_in order (nodes.Special text) = pos 0
stretch_in order (nodes.Rule rule) = pos 0
stretch_in order (nodes.Box shift b) = pos 0

-- How much an item can shrink in an order: only glue of this order can.
abbrev pub shrink_in : Order → Node → ℤ
shrink_in order (nodes.Glue glue) = if is_order order glue.shrink_order then glue.shrink else pos 0
shrink_in order (nodes.Glyph glyph) = pos 0
shrink_in order (nodes.FontKern width) = pos 0
shrink_in order (nodes.Kern width) = pos 0
shrink_in order (nodes.Penalty penalty) = pos 0
shrink_in order (nodes.Special text) = pos 0
shrink_in order (nodes.Rule rule) = pos 0
shrink_in order (nodes.Box shift b) = pos 0

-- Whether an item is a penalty or a special, which have no size (own).
abbrev pub is_sizeless : Node → Bool
is_sizeless node = classes.is_sizeless (class_of node)

-- The height of an item, without a shift.
abbrev pub item_height : Node → ℤ
item_height (nodes.Glyph glyph) = glyph.height
item_height (nodes.FontKern width) = pos 0
item_height (nodes.Kern width) = pos 0
item_height (nodes.Glue glue) = pos 0
item_height (nodes.Penalty penalty) = pos 0
item_height (nodes.Special text) = pos 0
item_height (nodes.Rule rule) = own_size rule.height
item_height (nodes.Box shift b) = b.height

-- The depth of an item, without a shift.
abbrev pub item_depth : Node → ℤ
item_depth (nodes.Glyph glyph) = glyph.depth
item_depth (nodes.FontKern width) = pos 0
item_depth (nodes.Kern width) = pos 0
item_depth (nodes.Glue glue) = pos 0
item_depth (nodes.Penalty penalty) = pos 0
item_depth (nodes.Special text) = pos 0
item_depth (nodes.Rule rule) = own_size rule.depth
item_depth (nodes.Box shift b) = b.depth

-- The height of an item that is a rule or a box, and otherwise 0: for the first item of a vtop, its height above the baseline (TeX: The Program, part
-- 47, §1087).
abbrev pub first_above : Node → ℤ
first_above node = if is_box_or_rule (class_of node) then item_height node else pos 0

-- The depth of an item that is a rule or a box, and otherwise 0: for the last item of a vertical list, its depth below the baseline.
abbrev pub last_below : Node → ℤ
last_below node = if is_box_or_rule (class_of node) then item_depth node else pos 0
