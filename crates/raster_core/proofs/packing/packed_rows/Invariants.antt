use Rattle.std.proofs.Common.{◌≡◌}
use Rattle.std.specs.List.{flat_map, range_with_len}
use Rattle.raster_core.specs.PackedRows.{packed_row}
use Rattle.raster_core.specs.Private.PackedRows.{pixel}
use Rattle.raster_core.specs.Words.{in_rows}
use Rattle.raster_core.proofs.packing.packed_rows.Given as goal

abbrev pub invariant-loop-y : goal.invariant-loop-y
invariant-loop-y l =
    l.bytes.items
    ≡ flat_map (λ y. packed_row l.rows.width (pixel l.rows.width (in_rows l.rows.words.now l.rows.stride) y)) (range_with_len 0 l.y)
