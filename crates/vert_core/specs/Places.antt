-- The places where a vertical list can be split (TeX: The Program, part 44, §970 to §973, vert_break).
use Rattle.std.specs.Prelude.{◌-◌, ℕ, ℤ, pos, negsuc, Bool, false, int_lt, if◌then◌else◌, List, [], ◌∷◌, length, take, drop, Option, Some, None}
use Rattle.std.specs.List.{slice_get}
use Rattle.node_core.specs.declared.tree.Kind.TheVariants.{Vertical}
use Rattle.node_core.specs.declared.tree.Node.{Node}
use Rattle.node_core.specs.declared.tree.Node.TheVariants as nodes
use Rattle.node_core.specs.Classes as classes
use Rattle.node_core.specs.Classes.{class_of}

-- Whether an item is a box or a rule: at the top of a page, glue, kerns and penalties before the first of them are dropped (TeX: The Program, part
-- 10, §148, and part 44, §968).
abbrev pub is_box_or_rule : Node → Bool
is_box_or_rule node = classes.is_box_or_rule (class_of node)

-- Whether glue after an item is a place where a split is allowed: after a box, a rule or a special. These stay at the top of a page (TeX: The
-- Program, part 10, §148, precedes_break, and part 44, §968 and §973).
abbrev pub precedes_break : Node → Bool
precedes_break node = classes.precedes_break Vertical (class_of node)

-- Whether there is an item and it precedes a break.
abbrev pub is_some_before_break : Option Node → Bool
is_some_before_break None = false
is_some_before_break (Some item) = precedes_break item

-- Whether the last of these items precedes a break.
abbrev pub ends_before_break : List Node → Bool
ends_before_break items = is_some_before_break (slice_get items (length items - 1))

-- The penalty that forces a split: -10000 (TeX: The Program, part 10, §157, eject_penalty).
abbrev pub eject : ℤ
eject = negsuc 9999

-- The penalty of the place between these items, if a split is allowed there: 0 before glue that follows a box, a rule or a special, and before a kern
-- that glue follows; the penalty itself before a penalty below 10000; and -10000 at the end (TeX: The Program, part 44, §972 and §973).
unfoldable pub place_penalty : (before after : List Node) → Option ℤ
place_penalty before [] = Some eject
place_penalty before ((nodes.Glue glue) ∷ rest) = if ends_before_break before then Some (pos 0) else None
place_penalty before ((nodes.Kern width) ∷ (nodes.Glue glue) ∷ rest) = Some (pos 0)
place_penalty before ((nodes.Penalty penalty) ∷ rest) = if int_lt penalty (pos 10000) then Some penalty else None
place_penalty before after = None

-- The penalty of the place before item i, if a split is allowed there; if i is the number of items, the place is the end.
abbrev pub penalty_before : List Node → ℕ → Option ℤ
penalty_before items i = place_penalty (take i items) (drop i items)
