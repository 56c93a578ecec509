-- The rest of `Cursors`, which no public contract reaches (own; the clauses `reached` of `Cursor` relate it to `place`).
use Rattle.std.specs.Prelude.{◌*◌, ◌^◌, ◌≤◌, ℕ, ℤ}
use Rattle.node_core.specs.Nodes.{max_nodes}
use Rattle.scaled_core.specs.Dimensions.{Within}

-- At most as many items were passed as a list has, and so the sums are small.
pub record IsReachable (natural shares : ℤ) (passed : ℕ) : Type 0 where
  pub advances : Within (2 ^ 31 * passed) natural
  pub parts : Within (2 ^ 31 * passed) shares
  pub few : passed ≤ max_nodes
