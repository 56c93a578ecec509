-- What is known of the end of a vertical list that is split again and again (own: TeX measures the rest anew after each split).
use Rattle.std.specs.Prelude.{◌≡◌, ◌≤◌, ◌-◌, ◌+◌, ◌*◌, ℕ, false, List, length, drop, Option, IsSomeAnd}
use Rattle.std.specs.Prelude.{slice_get}
use Rattle.std.specs.List.{list_any}
use Rattle.std.specs.Option.{IfSome}
use Rattle.node_core.specs.declared.tree.Node.{Node}
use Rattle.node_core.specs.Classes.{shrinks_infinitely}
use Rattle.node_core.specs.Nodes.{nodes_of}
use Rattle.pack_core.specs.declared.tail.Tail.{Tail}
use Rattle.pack_core.specs.Tails.{IsTail}
use Rattle.pack_core.specs.declared.pack.PackedBox.{PackedBox}
use Rattle.vert_core.specs.declared.tails.Tails.{Tails}

-- The last n items of a list.
abbrev pub last_items : ℕ → List Node → List Node
last_items n items = drop (length items - n) items

-- The first entry has the measures of the last 32 items, the second those of the last 64, and so on. There may be fewer entries than these, and more
-- than the list has items for; the latter say nothing.
abbrev pub MeasureEnds : List Tail → List Node → Type 0
MeasureEnds entries items =
    (n : ℕ) → 32 * (n + 1) ≤ length items → IfSome (slice_get entries n) (λ entry. IsTail (last_items (32 * (n + 1)) items) entry)

-- The tails of a list: the measures of its last items, none of which is its first item; and no item below the first one is glue that shrinks in an
-- infinite order. So the first item can be replaced, or dropped with others below it, and the tails stay true.
pub record AreTails (tails : Tails) (items : List Node) : Type 0 where
  pub measures : MeasureEnds tails.entries.items (drop 1 items)
  pub finite : list_any shrinks_infinitely (drop 1 items) ≡ false

-- If tails are given, there is a rest, and they are the tails of its list.
abbrev pub AreTailsOfRest : Option Tails → Option PackedBox → Type 0
AreTailsOfRest tails rest = IfSome tails (λ known. IsSomeAnd rest (λ packed. AreTails known (nodes_of packed.box_node.list)))
