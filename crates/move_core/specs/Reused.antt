-- The body of a page with its movements written with registers (own).
use Rattle.std.specs.Prelude.{Option, Some, None, Bool, false, ◌||◌, ℤ}
use Rattle.dvi_ops.specs.Instruction.{Axis, Across, Downward, Movement, By, BodyLeaf, Move}
use Rattle.dvi_ops.specs.Forest.{Forest, Empty, Then, Group}
use Rattle.move_core.specs.Registers.{KnownRegisters, nothing_known, is_amount, written_leaf}

-- The movement of an instruction in a direction, if it is one.
abbrev pub movement_along : Axis → BodyLeaf → Option Movement
movement_along Across (Move Across step) = Some step
movement_along Downward (Move Downward step) = Some step
movement_along axis leaf = None

-- The amount of a movement without a register.
abbrev pub plain_amount : Option Movement → Option ℤ
plain_amount (Some (By n)) = Some n
plain_amount step = None

-- Whether a movement by that amount in that direction is in a body, outside of its groups.
abbrev pub has_move : Forest → Axis → ℤ → Bool
has_move Empty axis n = false
has_move (Then leaf rest) axis n = is_amount (plain_amount (movement_along axis leaf)) n || has_move rest axis n
has_move (Group inner rest) axis n = has_move rest axis n

-- Whether an instruction is a movement whose amount comes again, where `later` is the test for each amount.
abbrev pub comes_again : BodyLeaf → (later : Axis → ℤ → Bool) → Bool
comes_again (Move axis (By n)) later = later axis n
comes_again leaf later = false

-- Each movement is written by the known values before it. A group begins with the values known at its push, and they are known again after its pop.
abbrev pub reused_from : KnownRegisters → Forest → Forest
reused_from k Empty = Empty
reused_from k (Then leaf rest) =
    Then (written_leaf k leaf (comes_again leaf (has_move rest))).leaf
    (reused_from (written_leaf k leaf (comes_again leaf (has_move rest))).known rest)
reused_from k (Group inner rest) = Group (reused_from k inner) (reused_from k rest)

-- A group before a body, if the group is not empty.
abbrev pub grouped_body : Forest → Forest → Forest
grouped_body Empty rest = rest
grouped_body (Then leaf inner) rest = Group (Then leaf inner) rest
grouped_body (Group first inner) rest = Group (Group first inner) rest

-- A body without groups that are empty or consist of empty groups alone.
abbrev pub pruned_body : Forest → Forest
pruned_body Empty = Empty
pruned_body (Then leaf rest) = Then leaf (pruned_body rest)
pruned_body (Group inner rest) = grouped_body (pruned_body inner) (pruned_body rest)

-- A body without empty groups, with its movements written with registers; at first no value is known.
unfoldable pub reused_body : Forest → Forest
reused_body body = reused_from nothing_known (pruned_body body)
