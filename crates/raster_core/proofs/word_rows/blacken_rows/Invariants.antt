use Rattle.std.proofs.Common.{◌≡◌, ℕ, ◌*◌, ◌<◌, ◌&&◌, ◌||◌, length}
use Rattle.raster_core.specs.Words.{AreFull, is_between, in_rows}
use Rattle.raster_core.proofs.word_rows.blacken_rows.Given as goal

abbrev pub invariant-loop-row : goal.invariant-loop-row
invariant-loop-row l = record {
  full : AreFull l.full l.words (length l.run.mask.now);
  pixels : (x y : ℕ) → x < 64 * length l.run.mask.now
      → in_rows l.words (length l.run.mask.now) x y ≡ (in_rows l.fn.words (length l.run.mask.now) x y || (is_between l.fn.rows.start l.row y && is_between l.run.first l.run.last x));
}
