use Rattle.std.proofs.Common.{◌≡◌, ℕ, ◌*◌, ◌<◌, ◌≤◌, slice_index}
use Rattle.raster_core.specs.Words.{is_between}
use Rattle.raster_core.specs.Private.Words.{in_row}
use Rattle.raster_core.proofs.masks.fill.Given as goal

abbrev pub invariant-loop-k : goal.invariant-loop-k
invariant-loop-k l = record {
  run : (x : ℕ) → 64 * l.from ≤ x → x < 64 * l.k → in_row l.mask x ≡ is_between l.first l.last x;
  before : (j : ℕ) → j < l.from → slice_index l.mask j ≡ slice_index l.fn.mask j;
  after : (j : ℕ) → l.to ≤ j → slice_index l.mask j ≡ slice_index l.fn.mask j;
}
