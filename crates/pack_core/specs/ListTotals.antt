-- The exact totals of a list, added up item by item (TeX: The Program, part 33, §649 to §656 and §669 to §671; own: of any size).
use Rattle.std.specs.Prelude.{◌≡◌, ◌+ℤ◌, ◌+◌, ℕ, ℤ, if◌then◌else◌, List, length}
use Rattle.node_core.specs.declared.tree.Kind.{Kind}
use Rattle.node_core.specs.declared.tree.Node.{Node}
use Rattle.pack_core.specs.Items.{item_width, height_above_baseline, depth_below_baseline}
use Rattle.pack_core.specs.Items.{advance, stretch_in, shrink_in, is_sizeless, last_below}
use Rattle.pack_core.specs.Totals.{total, greatest_of, pending_depth}
use Rattle.pack_core.specs.Glue.{stretch_totals, shrink_totals}
use Rattle.pack_core.specs.Orders.{order_amounts, plus}
use Rattle.pack_core.specs.declared.across.Across.{Across}
use Rattle.pack_core.specs.declared.orders.OrderAmounts.{OrderAmounts}

-- The totals of a list of a kind: the sum of the advances of its items, the stretch and shrink of its glue in each order, the pending depth at its
-- end, and the number of its items.
pub record ListTotals : Type 0 where
  pub kind : Kind
  pub advance : ℤ
  pub stretch : OrderAmounts
  pub shrink : OrderAmounts
  pub pending_depth : ℤ
  pub passed : ℕ

-- The totals of these items.
unfoldable pub totals_of : Kind → List Node → ListTotals
totals_of kind nodes =
    record {
      kind = kind;
      advance = total (advance kind) nodes;
      stretch = order_amounts (stretch_totals nodes);
      shrink = order_amounts (shrink_totals nodes);
      pending_depth = pending_depth nodes;
      passed = length nodes;
    }

-- The pending depth after one more item: a penalty or a special leaves it as it is, and every other item sets it.
abbrev pub pending_after : ℤ → Node → ℤ
pending_after before node = if is_sizeless node then before else last_below node

-- The totals with one more item, which adds what it has to each total.
abbrev pub with_item : ListTotals → Node → ListTotals
with_item totals node =
    record {
      kind = totals.kind;
      advance = totals.advance +ℤ advance totals.kind node;
      stretch = plus totals.stretch (λ order. stretch_in order node);
      shrink = plus totals.shrink (λ order. shrink_in order node);
      pending_depth = pending_after totals.pending_depth node;
      passed = totals.passed + 1;
    }

-- The measures of these items of a horizontal list: the sum of their widths, the greatest height and depth, at least 0, and the stretch and shrink of
-- their glue in each order (TeX: The Program, part 33, §651 to §656).
pub record IsAcross (nodes : List Node) (across : Across) : Type 0 where
  pub width : across.width ≡ total item_width nodes
  pub height : across.height ≡ greatest_of height_above_baseline nodes
  pub depth : across.depth ≡ greatest_of depth_below_baseline nodes
  pub stretch : across.stretch ≡ order_amounts (stretch_totals nodes)
  pub shrink : across.shrink ≡ order_amounts (shrink_totals nodes)
