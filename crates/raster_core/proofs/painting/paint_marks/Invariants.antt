use Rattle.std.proofs.Common.{◌≡◌, ℕ, ◌<◌, ◌||◌, length, map, take}
use Rattle.dvi_scan.specs.View.{mark_of}
use Rattle.raster_core.specs.Words.{AreFull, in_rows}
use Rattle.raster_core.specs.Pixels.{is_covered}
use Rattle.raster_core.proofs.painting.paint_marks.Given as goal

abbrev pub invariant-loop-mark : goal.invariant-loop-mark
invariant-loop-mark l = record {
  full : AreFull l.full l.words (length l.fn.mask);
  pixels : (x y : ℕ) → x < l.window.width → y < l.window.height
      → in_rows l.words (length l.fn.mask) x y
      ≡ (in_rows l.fn.words (length l.fn.mask) x y || is_covered l.window.scale (take l.mark-index (map mark_of l.marks)) x y);
}
