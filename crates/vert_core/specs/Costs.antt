-- The cost of a split at a place (TeX: The Program, part 44, §974 and §975).
use Rattle.std.specs.Prelude.{◌+ℤ◌, ◌-ℤ◌, ◌==◌, ◌&&◌, ◌||◌, ℕ, ℤ, pos, Bool, int_lt, int_le, nat_lt, if◌then◌else◌, List}
use Rattle.node_core.specs.declared.params.SplitParams.{SplitParams}
use Rattle.node_core.specs.declared.tree.Node.{Node}
use Rattle.node_core.specs.declared.tree.Order.{Order}
use Rattle.node_core.specs.declared.tree.Order.TheVariants.{Normal, Fil, Fill, Filll}
use Rattle.scaled_core.specs.Badness.{badness_of}
use Rattle.pack_core.specs.Boxes.{natural_height}
use Rattle.pack_core.specs.Glue.{is_zero, stretch_totals, shrink_totals}
use Rattle.vert_core.specs.declared.trials.Trial.{Trial}
use Rattle.vert_core.specs.Places.{eject}

-- The badness of a front that is too high and cannot shrink enough (TeX: The Program, part 38, §833, awful_bad).
abbrev pub awful : ℕ
awful = 1073741823

-- Whether the totals of the three infinite orders are 0.
abbrev pub is_only_normal : (Order → ℤ) → Bool
is_only_normal totals = is_zero (totals Fil) && (is_zero (totals Fill) && is_zero (totals Filll))

-- The badness of stretching glue by an amount; 0 if the total of an infinite order is not 0 (TeX: The Program, part 44, §975).
unfoldable pub stretching_badness : (amount : ℤ) → (totals : Order → ℤ) → ℕ
stretching_badness amount totals = if is_only_normal totals then badness_of amount (totals Normal) else 0

-- The badness of shrinking glue by an amount; awful if it cannot shrink by that much (TeX: The Program, part 44, §975).
unfoldable pub shrinking_badness : (amount shrink : ℤ) → ℕ
shrinking_badness amount shrink = if int_lt shrink amount then awful else badness_of amount shrink

-- The badness of setting items of this natural height to the height `goal`.
unfoldable pub badness_to : (goal natural : ℤ) → (stretch : Order → ℤ) → (shrink : ℤ) → ℕ
badness_to goal natural stretch shrink =
    if int_lt natural goal then stretching_badness (goal -ℤ natural) stretch else shrinking_badness (natural -ℤ goal) shrink

-- The badness of a front, the items before a place. Their natural height is that of their vbox, with a depth of at most splitmaxdepth.
unfoldable pub front_badness : SplitParams → (goal : ℤ) → (front : List Node) → ℕ
front_badness params goal front =
    badness_to goal (natural_height params.split_max_depth front) (stretch_totals front) (shrink_totals front Normal)

-- The cost of a split with a penalty and a badness (TeX: The Program, part 44, §974; 100000 is deplorable of part 44, §974).
unfoldable pub cost : Trial → ℤ
cost trial =
    if trial.badness == awful then pos awful
    else (if int_le trial.penalty eject then trial.penalty
    else (if nat_lt trial.badness 10000 then pos trial.badness +ℤ trial.penalty else pos 100000))

-- Whether no place after this one is tried: the front is too high already, or the split is forced here (TeX: The Program, part 44, §974).
unfoldable pub is_last : Trial → Bool
is_last trial = (trial.badness == awful) || int_le trial.penalty eject
