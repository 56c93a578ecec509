-- The state of a walk over the items of a box (own; the clauses `sums_after` of `Cursor` relate it to `place`).
use Rattle.std.specs.Prelude.{◌+ℤ◌, ◌+◌, ℕ, ℤ, List, length}
use Rattle.node_core.specs.declared.tree.Kind.{Kind}
use Rattle.node_core.specs.declared.tree.Node.{Node}
use Rattle.node_core.specs.declared.tree.Setting.{Setting}
use Rattle.pack_core.specs.Items.{advance}
use Rattle.pack_core.specs.Totals.{total}
use Rattle.pack_core.specs.Places.{share, set_by}

-- The state of a walk: the sums of the advances and of the shares of the items passed, and the number of these items.
pub record WalkSums : Type 0 where
  pub natural : ℤ
  pub shares : ℤ
  pub passed : ℕ

-- The state of a walk after these items.
unfoldable pub sums_after : Kind → Setting → (before : List Node) → WalkSums
sums_after kind setting before = record { natural = total (advance kind) before; shares = total (share setting) before; passed = length before }

-- The state of a walk after one more item.
abbrev pub one_more : Kind → Setting → WalkSums → Node → WalkSums
one_more kind setting from node =
    record { natural = from.natural +ℤ advance kind node; shares = from.shares +ℤ share setting node; passed = from.passed + 1 }

-- The state of a walk after an item that advances by this distance and has no share in the setting.
abbrev pub moved_on : WalkSums → (distance : ℤ) → WalkSums
moved_on from distance = record { natural = from.natural +ℤ distance; shares = from.shares; passed = from.passed + 1 }

-- The place after the items passed, measured from the beginning of the list.
abbrev pub place_at : Setting → WalkSums → ℤ
place_at setting at = at.natural +ℤ set_by setting at.shares
