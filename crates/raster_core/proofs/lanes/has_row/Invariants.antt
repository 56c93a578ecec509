use Rattle.std.proofs.Common.{◌≡◌, ℕ, ◌+◌, ◌<◌, ◌≤◌, slice_index}
use Rattle.std.specs.Prelude.{bit_or}
use Rattle.raster_core.proofs.lanes.has_row.Given as goal

abbrev pub invariant-loop-k : goal.invariant-loop-k
invariant-loop-k l = (j : ℕ) → l.from ≤ j → j < l.k → bit_or (slice_index l.words (l.at + j)) (slice_index l.mask j) ≡ slice_index l.words (l.at + j)
