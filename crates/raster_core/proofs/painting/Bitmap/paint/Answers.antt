use Rattle.std.proofs.Common.{ap, ◌∙◌, map}
use Rattle.std.specs.Vec.{with_items}
use Rattle.std.proofs.lemmas.List.{with_items_is}
use Rattle.dvi_ops.specs.View.{units as units_of}
use Rattle.dvi_scan.specs.View.{mark_of}
use Rattle.raster_core.specs.Pixels.{is_covered, scale_of}
use Rattle.raster_core.specs.PixelGrids.{painted_grid}
use Rattle.raster_core.proofs.DrawnPixels.{repainted}
use Rattle.raster_core.proofs.painting.Bitmap.paint.Goals as goal

pub returns : goal.returns
returns c =
    let b = c.self.inside in
    let words = with_items_is b.words.items c.paint_marks.new.words (c.paint_marks.auto.words ∙ c.deref_mut.ensures.len) in
    let mask = with_items_is b.mask.items c.paint_marks.new.mask (c.paint_marks.auto.mask ∙ c.deref_mut-2.ensures.len) in
    repainted b.width b.height b.words.items.items b.mask.items.items c.deref_mut.result.now c.deref_mut-2.result.now c.paint_marks.new.words c.paint_marks.new.mask
    (with_items b.words.items c.paint_marks.new.words).items
    (with_items b.mask.items c.paint_marks.new.mask).items
    c.new-scale.result
    (scale_of (units_of c.args.units) c.args.dpi)
    c.args.page.now.marks.items
    c.deref.result.now
    words
    mask
    c.paint_marks.auto.mask
    c.deref_mut.ensures.value
    c.deref_mut-2.ensures.value
    c.new-scale.ensures
    c.deref.ensures.value
    c.paint_marks.ensures
    ∙ ap (painted_grid (is_covered (scale_of (units_of c.args.units) c.args.dpi) (map mark_of c.args.page.now.marks.items))) c.self.view_is
