use Rattle.std.proofs.Common.{length}
use Rattle.raster_core.proofs.FullRows.{as_full, ends_of_run, fuller, whole_run}
use Rattle.raster_core.proofs.word_rows.blacken_row.Goals as goal

pub returns-then-has_row-clause-full : goal.returns-then-has_row-clause-full
returns-then-has_row-clause-full c =
    as_full c.args.full.now c.args.words.now c.or_row-then-has_row.new.words (length c.args.run.mask.now) _ c.requires.full
    (ends_of_run c.args.full.now c.args.words.now c.or_row.new.words c.or_row-then-has_row.new.words (length c.args.run.mask.now) c.args.row c.args.run.mask.now c.args.run.inner.now c.args.run.first c.args.run.last _
    c.div_ceil-to.ensures c.args.run.nonempty c.args.run.columns c.args.run.mask_bounded c.args.run.run c.requires.full (c.has_row.ensures c.if-has_row.true) c.or_row.ensures c.or_row-then-has_row.ensures)

pub returns-then-has_row-clause-pixels : goal.returns-then-has_row-clause-pixels
returns-then-has_row-clause-pixels c =
    ends_of_run c.args.full.now c.args.words.now c.or_row.new.words c.or_row-then-has_row.new.words (length c.args.run.mask.now) c.args.row c.args.run.mask.now c.args.run.inner.now c.args.run.first c.args.run.last _
    c.div_ceil-to.ensures c.args.run.nonempty c.args.run.columns c.args.run.mask_bounded c.args.run.run c.requires.full (c.has_row.ensures c.if-has_row.true) c.or_row.ensures c.or_row-then-has_row.ensures

pub returns-else-has_row-clause-full : goal.returns-else-has_row-clause-full
returns-else-has_row-clause-full c =
    fuller c.args.full.now c.or_row-else-has_row-2.new.words c.args.words.now c.or_row-else-has_row.new.words (length c.args.run.mask.now) c.args.row c.args.run.mask.now c.args.run.inner.now c.args.run.first c.args.run.last
    c.args.run.mask_bounded c.args.run.run c.requires.full c.or_row-else-has_row-2.ensures
    (whole_run c.args.words.now c.or_row-else-has_row.new.words (length c.args.run.mask.now) c.args.row c.args.run.mask.now c.args.run.inner.now c.args.run.first c.args.run.last _ c.div_ceil-to.ensures c.args.run.columns c.args.run.run c.or_row-else-has_row.ensures)

pub returns-else-has_row-clause-pixels : goal.returns-else-has_row-clause-pixels
returns-else-has_row-clause-pixels c =
    whole_run c.args.words.now c.or_row-else-has_row.new.words (length c.args.run.mask.now) c.args.row c.args.run.mask.now c.args.run.inner.now c.args.run.first c.args.run.last _ c.div_ceil-to.ensures c.args.run.columns c.args.run.run c.or_row-else-has_row.ensures
