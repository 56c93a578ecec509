-- The rest of `Resumed`, which no public contract reaches (own).
use Rattle.std.specs.Prelude.{◌≡◌, ◌≤◌, ◌<◌, [], ℕ, List, length, Option}
use Rattle.dvi_device.specs.Written.{written_then}

-- The inner device got bytes since the start, and none before all of `sent` was met.
pub record IsResumed (before now : Option (List ℕ)) (sent : List ℕ) (met : ℕ) : Type 0 where
  pub within : met ≤ length sent
  pub since : List ℕ
  pub got : now ≡ written_then before since
  pub none : met < length sent → since ≡ []
