use Rattle.std.proofs.Common.{pos, ap, ◌∙◌}
use Rattle.std.specs.Prelude.{int_le, int_lt}
use Rattle.std.specs.Int.{w128}
use Rattle.std.proofs.lemmas.Int.{to_z-of_z}
use Rattle.raster_core.proofs.CutRuns.{run_is}
use Rattle.raster_core.proofs.pixels.cut.Goals as goal

pub returns-clause-exact : goal.returns-clause-exact
returns-clause-exact c =
    λ x h. run_is c.count_below.result c.count_up_to.result x c.args.first c.args.last
    (c.count_below.ensures.exact x h ∙ ap (int_lt (pos x)) (to_z-of_z w128 c.args.first c.ranges.first))
    (c.count_up_to.ensures.exact x h ∙ ap (int_le (pos x)) (to_z-of_z w128 c.args.last c.ranges.last))
