-- The rest of `Orders`, which no public contract reaches (own).
use Rattle.std.specs.Prelude.{ℤ, List, [], ◌∷◌}
use Rattle.node_core.specs.declared.tree.Order.{Order}
use Rattle.node_core.specs.declared.tree.Order.TheVariants.{Normal, Fil, Fill, Filll}
use Rattle.pack_core.specs.declared.orders.OrderDimens.{OrderDimens}

-- The amount of an order, among the dimensions of the four.
abbrev pub by_order : OrderDimens → Order → ℤ
by_order dimens Normal = dimens.normal
by_order dimens Fil = dimens.fil
by_order dimens Fill = dimens.fill
by_order dimens Filll = dimens.filll

-- The amounts of the four orders, as dimensions.
abbrev pub order_dimens : (Order → ℤ) → OrderDimens
order_dimens amounts = record { normal = amounts Normal; fil = amounts Fil; fill = amounts Fill; filll = amounts Filll }

-- The amounts of the four orders as a list, from order normal on.
abbrev pub each_order : (Order → ℤ) → List ℤ
each_order amounts = amounts Normal ∷ amounts Fil ∷ amounts Fill ∷ amounts Filll ∷ []
