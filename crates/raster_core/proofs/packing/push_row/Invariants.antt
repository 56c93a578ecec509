use Rattle.std.proofs.Common.{◌≡◌, ◌++◌, ◌*◌, map}
use Rattle.std.specs.List.{range_with_len}
use Rattle.raster_core.specs.PackedRows.{packed_byte}
use Rattle.raster_core.specs.Private.PackedRows.{pixel}
use Rattle.raster_core.specs.Words.{in_rows}
use Rattle.raster_core.proofs.packing.push_row.Given as goal

abbrev pub invariant-loop-k : goal.invariant-loop-k
invariant-loop-k l =
    l.out.items
    ≡ l.fn.out.items ++ map (λ i. packed_byte (pixel l.rows.width (in_rows l.rows.words.now l.rows.stride) l.y) (8 * i)) (range_with_len 0 l.k)
