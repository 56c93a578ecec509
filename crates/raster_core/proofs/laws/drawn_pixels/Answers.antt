use Rattle.std.proofs.Common.{refl}
use Rattle.raster_core.specs.PixelGrids.{grid_of}
use Rattle.raster_core.proofs.DrawnPixels.{drawn_pixel, drawn_right, drawn_below}
use Rattle.raster_core.proofs.laws.drawn_pixels.Goals as goal

pub returns : goal.returns
unfolding grid_of
returns c = record {
  width = λ w h black. refl;
  height = λ w h black. refl;
  inside = drawn_pixel;
  right = drawn_right;
  below = drawn_below;
}
