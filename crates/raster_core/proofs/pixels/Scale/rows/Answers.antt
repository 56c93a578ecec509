use Rattle.std.proofs.Common.{ap, ◌∙◌}
use Rattle.std.specs.Int.{w32}
use Rattle.std.proofs.lemmas.Int.{to_z-of_z}
use Rattle.raster_core.specs.Pixels.{in_rows, place, pixels}
use Rattle.raster_core.proofs.CutRuns.{rows_are}
use Rattle.raster_core.proofs.pixels.Scale.rows.Goals as goal

pub returns-clause-exact : goal.returns-clause-exact
unfolding in_rows
returns-clause-exact c =
    λ y h.
    let corner = c.place-last.ensures.value ∙ ap (place c.args.self.now) (to_z-of_z w32 c.args.v c.ranges.v) in
    let size = c.pixels.ensures.value ∙ ap (pixels c.args.self.now) (to_z-of_z w32 c.args.height c.ranges.height) in
    c.cut.ensures.exact y h ∙ rows_are y c.place-last.result _ c.pixels.result _ c.place-last.ensures.value_bounded c.pixels.ensures.value_bounded corner size
