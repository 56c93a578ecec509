use Rattle.std.proofs.Common.{◌+◌, ◌*◌}
use Rattle.raster_core.specs.Private.Words.{Ors}
use Rattle.raster_core.proofs.lanes.or_row.Given as goal

abbrev pub invariant-lanes : goal.invariant-lanes
invariant-lanes l = Ors l.fn.words l.words l.at l.mask l.from (l.from + 8 * l.block)

abbrev pub invariant-rest : goal.invariant-rest
invariant-rest l = Ors l.fn.words l.words l.at l.mask l.from l.k
