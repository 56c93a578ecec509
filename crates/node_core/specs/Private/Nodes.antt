-- The rest of `Nodes`, which no public contract reaches (own).
use Rattle.std.specs.Prelude.{ℕ, ◌+◌, ◌*◌}
use Rattle.node_core.specs.declared.tree.BoxNode.{BoxNode}
use Rattle.node_core.specs.Items.{Items, items_depth}

-- Sizes of a list and of a box on the heap for the model: each is smaller than what contains it (own).
abbrev pub list_size : Items → ℕ
list_size items = 2 * items_depth items

abbrev pub box_size : BoxNode → ℕ
box_size b = 2 * items_depth b.list + 1
