use Rattle.std.proofs.Common.{◌≡◌, ◌≤◌, ◌++◌, ◌+◌, ◌*◌, vec_len, vec_capacity}
use Rattle.std.specs.List.{flat_map, range_with_len}
use Rattle.raster_core.specs.Words.{in_rows}
use Rattle.raster_core.specs.PlainText.{row_text}
use Rattle.raster_core.specs.Private.RowPieces.{row_size}
use Rattle.raster_core.proofs.printing.append_rows.Given as goal

abbrev pub invariant-loop-y : goal.invariant-loop-y
invariant-loop-y l = record {
  written : l.out.items ≡ l.fn.out.items ++ flat_map (λ y. row_text l.rows.width (λ x. in_rows l.rows.words.now l.rows.stride x y)) (range_with_len 0 l.y);
  len : vec_len l.out ≡ vec_len l.fn.out + l.y * row_size l.rows.width;
  capacity : vec_capacity l.fn.out ≤ vec_capacity l.out;
}
