-- The totals of the items that were passed (own; only private calls use them).
use Rattle.std.specs.Prelude.{◌-ℤ◌, ℤ}
use Rattle.std.specs.Int.{int_min}
use Rattle.node_core.specs.declared.tree.Order.{Order}
use Rattle.node_core.specs.declared.tree.Order.TheVariants.{Normal, Fil, Fill, Filll}
use Rattle.pack_core.specs.declared.orders.OrderAmounts.{OrderAmounts}
use Rattle.pack_core.specs.ListTotals.{ListTotals}

-- The amount of an order.
abbrev pub amounts_by : OrderAmounts → Order → ℤ
amounts_by amounts Normal = amounts.normal
amounts_by amounts Fil = amounts.fil
amounts_by amounts Fill = amounts.fill
amounts_by amounts Filll = amounts.filll

-- The natural height of the items that were passed, in a vbox with a depth of at most the limit.
unfoldable pub natural_at : (limit : ℤ) → ListTotals → ℤ
natural_at limit totals = totals.advance -ℤ int_min totals.pending_depth limit
