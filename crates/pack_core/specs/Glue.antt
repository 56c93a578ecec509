-- The setting of the glue of a list, and its badness (TeX: The Program, part 33, §657 to §667 and §672 to §678).
use Rattle.std.specs.Prelude.{◌≡◌, ◌≢◌, ◌<◌, ℕ, ℤ, pos, negsuc, zero, suc, neg_ℤ, Bool, true, false, int_lt, if◌then◌else◌, List, [], ◌∷◌, Option}
use Rattle.std.specs.Prelude.{Some, None}
use Rattle.node_core.specs.declared.tree.Node.{Node}
use Rattle.node_core.specs.declared.tree.Order.{Order}
use Rattle.node_core.specs.declared.tree.Order.TheVariants.{Normal, Fil, Fill, Filll}
use Rattle.node_core.specs.declared.tree.Setting.{Setting}
use Rattle.node_core.specs.declared.tree.Setting.TheVariants.{Natural, Stretch, Shrink}
pub use Rattle.node_core.specs.Classes.{is_zero}
use Rattle.scaled_core.specs.Fractions.{Fraction}
use Rattle.scaled_core.specs.Badness.{badness_of}
use Rattle.pack_core.specs.Items.{stretch_in, shrink_in}
use Rattle.pack_core.specs.Totals.{total}

-- The rank of an order (TeX: The Program, part 10, §135 and §150).
abbrev pub rank : Order → ℕ
rank Normal = 0
rank Fil = 1
rank Fill = 2
rank Filll = 3

-- The order has a total that is not 0, and no higher order has one (TeX: The Program, part 33, §659 and §665).
pub record IsHighest (totals : Order → ℤ) (order : Order) : Type 0 where
  pub not_zero : totals order ≢ pos 0
  pub alone : (other : Order) → rank order < rank other → totals other ≡ pos 0

-- The highest order whose total is not 0, as in `IsHighest` (law `highest_order_is_set`); none if all totals are 0.
unfoldable pub highest : (Order → ℤ) → Option Order
highest totals =
    if is_zero (totals Filll)
    then (if is_zero (totals Fill) then (if is_zero (totals Fil) then (if is_zero (totals Normal) then None else Some Normal) else Some Fil)
    else Some Fill)
    else Some Filll

-- The exact fraction of an amount and a total that is not 0, with a denominator above 0 (own: TeX has a floating-point ratio).
abbrev pub fraction : (amount total : ℤ) → Fraction
fraction amount (pos n) = record { num = amount; den = pos n }
fraction amount (negsuc n) = record { num = neg_ℤ amount; den = pos (suc n) }

-- The setting of glue that is stretched by an amount above 0: the ratio of the highest order is the amount as a fraction of the total (TeX: The
-- Program, part 33, §658 and §673).
abbrev pub stretched_setting : (amount : ℤ) → (totals : Order → ℤ) → Option Order → Setting
stretched_setting amount totals None = Natural
stretched_setting amount totals (Some order) = Stretch order (fraction amount (totals order))

-- The total shrink of normal order is less than the amount (TeX: The Program, part 33, §664 and §676).
abbrev pub is_short : (amount : ℤ) → (totals : Order → ℤ) → Bool
is_short amount totals = int_lt (totals Normal) amount

-- The ratio by which glue of an order shrinks by an amount above 0. Glue of normal order shrinks by at most its total: its ratio is at most 1 (TeX:
-- The Program, part 33, §664 and §676).
abbrev pub shrink_ratio : (amount : ℤ) → (totals : Order → ℤ) → Order → Fraction
shrink_ratio amount totals Normal = if is_short amount totals then record { num = pos 1; den = pos 1 } else fraction amount (totals Normal)
shrink_ratio amount totals order = fraction amount (totals order)

-- The setting of glue that is shrunk by an amount above 0 (TeX: The Program, part 33, §664 and §676).
abbrev pub shrunk_setting : (amount : ℤ) → (totals : Order → ℤ) → Option Order → Setting
shrunk_setting amount totals None = Natural
shrunk_setting amount totals (Some order) = Shrink order (shrink_ratio amount totals order)

-- The setting of glue with these totals for an excess, which is the size of the box minus the natural size of its list: glue stretches if it is above
-- 0, and shrinks if it is below 0 (TeX: The Program, part 33, §657 and §672).
abbrev pub glue_setting : (excess : ℤ) → (stretch shrink : Order → ℤ) → Setting
glue_setting (pos zero) stretch shrink = Natural
glue_setting (pos (suc n)) stretch shrink = stretched_setting (pos (suc n)) stretch (highest stretch)
glue_setting (negsuc n) stretch shrink = shrunk_setting (pos (suc n)) shrink (highest shrink)

-- The total stretch of the glue of a list in each order (TeX: The Program, part 33, §656 and §671).
abbrev pub stretch_totals : List Node → Order → ℤ
stretch_totals nodes order = total (stretch_in order) nodes

-- The total shrink of the glue of a list in each order (TeX: The Program, part 33, §656 and §671).
abbrev pub shrink_totals : List Node → Order → ℤ
shrink_totals nodes order = total (shrink_in order) nodes

-- The setting of a list with this excess (TeX: The Program, part 33, §657 and §672).
unfoldable pub setting_of : (excess : ℤ) → List Node → Setting
setting_of excess nodes = glue_setting excess (stretch_totals nodes) (shrink_totals nodes)

-- Whether the glue that is set is of normal order, or there is no glue to set.
abbrev pub is_finite : Option Order → Bool
is_finite None = true
is_finite (Some Normal) = true
is_finite (Some order) = false

-- The badness of an overfull box (TeX: The Program, part 33, §664 and §676).
abbrev pub overfull : ℕ
overfull = 1000000

-- The badness of stretching by an amount; 0 if glue of an infinite order is set.
abbrev pub stretch_badness : (amount : ℤ) → (totals : Order → ℤ) → ℕ
stretch_badness amount totals = if is_finite (highest totals) then badness_of amount (totals Normal) else 0

-- The badness of shrinking by an amount: overfull if glue of normal order cannot shrink by that much, and 0 if glue of an infinite order is set.
abbrev pub shrink_badness : (amount : ℤ) → (totals : Order → ℤ) → ℕ
shrink_badness amount totals =
    if is_finite (highest totals) then (if is_short amount totals then overfull else badness_of amount (totals Normal)) else 0

-- The badness of this excess for glue with these totals.
abbrev pub glue_badness : (excess : ℤ) → (stretch shrink : Order → ℤ) → ℕ
glue_badness (pos zero) stretch shrink = 0
glue_badness (pos (suc n)) stretch shrink = stretch_badness (pos (suc n)) stretch
glue_badness (negsuc n) stretch shrink = shrink_badness (pos (suc n)) shrink

-- The badness of a list with this excess; for an empty list it is 0.
unfoldable pub setting_badness : (excess : ℤ) → List Node → ℕ
setting_badness excess [] = 0
setting_badness excess (x ∷ xs) = glue_badness excess (stretch_totals (x ∷ xs)) (shrink_totals (x ∷ xs))
