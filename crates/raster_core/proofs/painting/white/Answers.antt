use Rattle.std.proofs.Common.{length, ◌∙◌}
use Rattle.raster_core.proofs.DrawnPixels.{white_is}
use Rattle.raster_core.proofs.painting.white.Goals as goal

pub returns : goal.returns
returns c =
    white_is c.args.width c.args.height _ (length c.into_boxed_slice-mask.result.items.items) c.into_boxed_slice-words.result.items.items
    (c.into_boxed_slice-words.ensures.items ∙ c.in_ok-vec.ensures.items_if_clones_equal (λ y e. e))
