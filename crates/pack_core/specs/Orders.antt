-- Amounts of the four orders of glue (own).
use Rattle.std.specs.Prelude.{◌+ℤ◌, ℕ, ℤ}
use Rattle.node_core.specs.declared.tree.Order.{Order}
use Rattle.node_core.specs.declared.tree.Order.TheVariants.{Normal, Fil, Fill, Filll}
use Rattle.scaled_core.specs.Dimensions.{Within}
use Rattle.pack_core.specs.declared.orders.OrderAmounts.{OrderAmounts}

-- The amounts of the four orders, of any size.
abbrev pub order_amounts : (Order → ℤ) → OrderAmounts
order_amounts amounts = record { normal = amounts Normal; fil = amounts Fil; fill = amounts Fill; filll = amounts Filll }

-- Each amount plus another amount of its order.
abbrev pub plus : OrderAmounts → (Order → ℤ) → OrderAmounts
plus amounts more =
    record {
      normal = amounts.normal +ℤ more Normal;
      fil = amounts.fil +ℤ more Fil;
      fill = amounts.fill +ℤ more Fill;
      filll = amounts.filll +ℤ more Filll;
    }

-- The absolute value of each amount is at most n.
pub record AreWithin (n : ℕ) (amounts : OrderAmounts) : Type 0 where
  pub normal : Within n amounts.normal
  pub fil : Within n amounts.fil
  pub fill : Within n amounts.fill
  pub filll : Within n amounts.filll
