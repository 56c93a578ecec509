-- The steps from the totals of a list to its box, with one definition for each call (own; only private calls use them).
use Rattle.std.specs.Prelude.{◌+ℤ◌, ◌-ℤ◌, ℤ, List, [], ◌∷◌, Option, Some, None, Result, Ok, Err}
use Rattle.std.specs.List.{list_all}
use Rattle.node_core.specs.declared.tree.Node.{Node}
use Rattle.node_core.specs.Items.{Items}
use Rattle.pack_core.specs.declared.pack.PackedBox.{PackedBox}
use Rattle.pack_core.specs.declared.pack.TooLarge.{TooLarge}
use Rattle.pack_core.specs.declared.pack.Shell.{Shell}
use Rattle.pack_core.specs.declared.orders.OrderAmounts.{OrderAmounts}
use Rattle.pack_core.specs.declared.orders.OrderDimens.{OrderDimens}
use Rattle.pack_core.specs.declared.setting.GlueSet.{GlueSet}
use Rattle.scaled_core.specs.Dimensions.{fits}
use Rattle.pack_core.specs.Glue.{setting_of, setting_badness}
use Rattle.pack_core.specs.Boxes.{some_if, packed_of}

-- The totals as dimensions, if all four fit.
unfoldable pub dimens_of : OrderAmounts → Option OrderDimens
dimens_of amounts =
    some_if (list_all fits (amounts.normal ∷ amounts.fil ∷ amounts.fill ∷ amounts.filll ∷ []))
    (record { normal = amounts.normal; fil = amounts.fil; fill = amounts.fill; filll = amounts.filll })

-- The setting of the glue of a list for this excess, and its badness.
unfoldable pub glue_set : (excess : ℤ) → List Node → GlueSet
glue_set excess nodes = record { setting = setting_of excess nodes; badness = setting_badness excess nodes }

-- A box without its list, with this height in place of its own; height and depth together stay the same.
unfoldable pub vtop_shell : Shell → (height : ℤ) → Shell
vtop_shell shell height = record shell { height = height; depth = (shell.depth +ℤ shell.height) -ℤ height }

-- The list in its box, or the list itself if there is no box for it.
unfoldable pub boxed_list : Items → Option Shell → Result PackedBox TooLarge
boxed_list items None = Err (record { list = items })
boxed_list items (Some shell) = Ok (packed_of items shell)
