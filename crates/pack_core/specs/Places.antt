-- The places of the items of a packed box (after TeX: The Program, part 32, §625 and §634, as later versions of TeX do it: the share of all glue
-- before an item is rounded once; own: by an exact ratio, where TeX has a floating-point one).
use Rattle.std.specs.Prelude.{◌+ℤ◌, ℕ, ℤ, pos, neg_ℤ, List, take}
use Rattle.node_core.specs.declared.tree.Kind.{Kind}
use Rattle.node_core.specs.declared.tree.Node.{Node}
use Rattle.node_core.specs.declared.tree.BoxNode.{BoxNode}
use Rattle.node_core.specs.declared.tree.Setting.{Setting}
use Rattle.node_core.specs.declared.tree.Setting.TheVariants.{Natural, Stretch, Shrink}
use Rattle.node_core.specs.Nodes.{nodes_of}
use Rattle.scaled_core.specs.Fractions.{round_times}
use Rattle.pack_core.specs.Items.{advance, stretch_in, shrink_in}
use Rattle.pack_core.specs.Totals.{total}

-- The share of an item in a setting: its stretch in the order of the setting, or its shrink as a negative number.
abbrev pub share : Setting → Node → ℤ
share Natural node = pos 0
share (Stretch order ratio) node = stretch_in order node
share (Shrink order ratio) node = neg_ℤ (shrink_in order node)

-- How much a setting adds to items with this sum of shares.
abbrev pub set_by : Setting → (shares : ℤ) → ℤ
set_by Natural shares = pos 0
set_by (Stretch order ratio) shares = round_times ratio shares
set_by (Shrink order ratio) shares = round_times ratio shares

-- The distance from the beginning of the list to the place after these items.
unfoldable pub place : Kind → Setting → (before : List Node) → ℤ
place kind setting before = total (advance kind) before +ℤ set_by setting (total (share setting) before)

-- The place of item i of a box; for i equal to the number of items, it is the place after the last one.
abbrev pub place_in : BoxNode → ℕ → ℤ
place_in b i = place b.kind b.setting (take i (nodes_of b.list))
