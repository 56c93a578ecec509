-- The page that a box makes, and its edges (TeX: The Program, part 32, §640 and §641).
use Rattle.std.specs.Prelude.{◌+ℤ◌, ℤ, List}
use Rattle.node_core.specs.declared.tree.BoxNode.{BoxNode}
use Rattle.page_core.specs.Marks.{ShippedPage}
use Rattle.page_core.specs.declared.offsets.Offsets.{Offsets}

-- The page of a box with these counts and the reference point (h, v).
abbrev pub page_at : (counts : List ℤ) → (h v : ℤ) → BoxNode → ShippedPage
page_at counts h v b = record { counts = counts; box_node = b; h = h; v = v }

-- The page of a box with these counts. Its reference point is `offsets.h` to the right of the origin, and its height plus `offsets.v` below it (TeX:
-- The Program, part 32, §640 and §641).
abbrev pub page_with : (counts : List ℤ) → Offsets → BoxNode → ShippedPage
page_with counts offsets b = page_at counts offsets.h (b.height +ℤ offsets.v) b

-- The bottom of a page, below the origin: the bottom of its box (TeX: The Program, part 32, §641).
abbrev pub reach_down : ShippedPage → ℤ
reach_down page = page.v +ℤ page.box_node.depth

-- The right edge of a page, to the right of the origin: the right edge of its box (TeX: The Program, part 32, §641).
abbrev pub reach_right : ShippedPage → ℤ
reach_right page = page.h +ℤ page.box_node.width
