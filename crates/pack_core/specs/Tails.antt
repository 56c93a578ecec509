-- The measures of a vertical list, and those of the items at its end (TeX: The Program, part 33, §668 to §671; own: of any size).
use Rattle.std.specs.Prelude.{◌≡◌, ◌*◌, ◌^◌, ◌≤ℤ◌, ℕ, pos, List, length}
use Rattle.std.specs.List.{list_all}
use Rattle.scaled_core.specs.Dimensions.{Within}
use Rattle.node_core.specs.declared.tree.Node.{Node}
use Rattle.pack_core.specs.declared.down.Down.{Down}
use Rattle.pack_core.specs.declared.tail.Tail.{Tail}
use Rattle.pack_core.specs.Items.{downward, breadth, is_sizeless}
use Rattle.pack_core.specs.Totals.{total, greatest_of, pending_depth}
use Rattle.pack_core.specs.Glue.{stretch_totals, shrink_totals}
use Rattle.pack_core.specs.Orders.{order_amounts, AreWithin}

-- The measures of these items of a vertical list.
pub record AreMeasuresOf (nodes : List Node) (down : Down) : Type 0 where
  pub advance : down.advance ≡ total downward nodes
  pub breadth : down.breadth ≡ greatest_of breadth nodes
  pub pending_depth : down.pending_depth ≡ pending_depth nodes
  pub stretch : down.stretch ≡ order_amounts (stretch_totals nodes)
  pub shrink : down.shrink ≡ order_amounts (shrink_totals nodes)

-- After n items of a vertical list, the sums are small, and the breadth is not below 0.
pub record HasGoneDown (n : ℕ) (down : Down) : Type 0 where
  pub advance : Within (2 ^ 31 * n) down.advance
  pub breadth : pos 0 ≤ℤ down.breadth
  pub stretch : AreWithin (2 ^ 31 * n) down.stretch
  pub shrink : AreWithin (2 ^ 31 * n) down.shrink

-- The measures of these items at the end of a vertical list, which are small, and whether all of them are penalties and specials.
pub record IsTail (nodes : List Node) (tail : Tail) : Type 0 where
  pub measures : AreMeasuresOf nodes tail.down
  pub sizeless : tail.is_sizeless ≡ list_all is_sizeless nodes
  pub small : HasGoneDown (length nodes) tail.down
