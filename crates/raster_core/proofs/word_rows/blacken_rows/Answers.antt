use Rattle.std.proofs.Common.{length, arith}
use Rattle.raster_core.specs.Words.{is_between}
use Rattle.raster_core.proofs.RowSteps.{rows_more}
use Rattle.raster_core.proofs.word_rows.blacken_rows.Goals as goal

pub loop-row-preserved : goal.loop-row-preserved
loop-row-preserved c = record {
  full = c.blacken_row.ensures.full;
  pixels =
      rows_more c.args.words.now c.loop-row.words c.blacken_row.new.words (length c.args.run.mask.now) c.args.rows.start c.loop-row.row (is_between c.args.run.first c.args.run.last)
      (omega arith)
      c.loop-row.invariant.pixels
      c.blacken_row.ensures.pixels;
}
