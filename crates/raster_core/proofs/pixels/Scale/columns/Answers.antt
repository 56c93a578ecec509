use Rattle.std.proofs.Common.{ap, ◌∙◌}
use Rattle.std.specs.Int.{w32}
use Rattle.std.proofs.lemmas.Int.{to_z-of_z}
use Rattle.raster_core.specs.Pixels.{in_columns, place, pixels}
use Rattle.raster_core.proofs.CutRuns.{columns_are}
use Rattle.raster_core.proofs.pixels.Scale.columns.Goals as goal

pub returns-clause-exact : goal.returns-clause-exact
unfolding in_columns
returns-clause-exact c =
    λ x h.
    let corner = c.place-first.ensures.value ∙ ap (place c.args.self.now) (to_z-of_z w32 c.args.h c.ranges.h) in
    let size = c.pixels.ensures.value ∙ ap (pixels c.args.self.now) (to_z-of_z w32 c.args.width c.ranges.width) in
    c.cut.ensures.exact x h ∙ columns_are x c.place-first.result _ c.pixels.result _ c.place-first.ensures.value_bounded c.pixels.ensures.value_bounded corner size
