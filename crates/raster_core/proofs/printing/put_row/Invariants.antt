use Rattle.std.proofs.Common.{◌≡◌, ◌*◌, take}
use Rattle.raster_core.specs.Words.{in_rows}
use Rattle.raster_core.specs.Private.RowPieces.{digits}
use Rattle.raster_core.proofs.printing.put_row.Given as goal

abbrev pub invariant-loop-k : goal.invariant-loop-k
invariant-loop-k l = take (64 * l.k) l.row ≡ digits (λ x. in_rows l.words l.stride x l.y) 0 (64 * l.k)
