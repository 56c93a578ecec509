-- Sums and greatest elements over whole lists (own).
use Rattle.std.specs.Prelude.{◌+ℤ◌, ℤ, pos, if◌then◌else◌, List, [], ◌∷◌}
use Rattle.std.specs.List.{list_all}
use Rattle.std.specs.Int.{int_max}
use Rattle.node_core.specs.declared.tree.Node.{Node}
use Rattle.pack_core.specs.Items.{is_sizeless, first_above, last_below}

-- The sum of a size over a list.
abbrev pub total : (Node → ℤ) → List Node → ℤ
total size [] = pos 0
total size (x ∷ xs) = size x +ℤ total size xs

-- The greatest value of a size over a list, at least 0.
abbrev pub greatest_of : (Node → ℤ) → List Node → ℤ
greatest_of size [] = pos 0
greatest_of size (x ∷ xs) = int_max (size x) (greatest_of size xs)

-- The pending depth at the end of a list: the depth of the last rule or box if only penalties and specials follow it, and otherwise 0 (TeX: The
-- Program, part 33, §669 to §671).
abbrev pub pending_depth : List Node → ℤ
pending_depth [] = pos 0
pending_depth (x ∷ xs) = if list_all is_sizeless xs then last_below x else pending_depth xs

-- The height of the first item if it is a rule or a box, and otherwise 0 (TeX: The Program, part 47, §1087).
abbrev pub first_height : List Node → ℤ
first_height [] = pos 0
first_height (x ∷ xs) = first_above x
