use Rattle.std.proofs.Common.{length, subst}
use Rattle.raster_core.specs.Words.{AreFull, in_rows}
use Rattle.raster_core.proofs.DrawnPixels.{none_full}
use Rattle.raster_core.proofs.PaintedMarks.{none_painted, painted_more}
use Rattle.raster_core.proofs.painting.paint_marks.Goals as goal

pub loop-mark-init : goal.loop-mark-init
loop-mark-init c = record {
  full = none_full (length c.args.full.now) (length c.args.mask.now) c.fill.new.self c.args.words.now (c.fill.ensures.after (λ y e. e));
  pixels = λ x y h k. none_painted c.args.window.now.scale c.args.marks.now x y (in_rows c.args.words.now (length c.args.mask.now) x y);
}

pub loop-mark-preserved : goal.loop-mark-preserved
loop-mark-preserved c = record {
  full = subst (λ n. AreFull c.paint_mark.new.full c.paint_mark.new.words n) c.loop-mark.auto.mask c.paint_mark.ensures.full;
  pixels =
      λ x y h k.
      painted_more c.args.window.now.scale c.args.marks.now c.loop-mark.mark-index x y _ (length c.loop-mark.mask) (length c.args.mask.now) c.args.words.now c.loop-mark.words c.paint_mark.new.words
      c.loop-mark-test.true
      c.loop-mark.auto.mask
      (c.paint_mark.ensures.pixels x y h k)
      (c.loop-mark.invariant.pixels x y h k);
}
