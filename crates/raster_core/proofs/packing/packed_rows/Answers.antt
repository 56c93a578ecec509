-- One more row, or all rows.
use Rattle.std.proofs.Common.{◌≡◌, ◌∙◌, ℕ, List, [], ap, refl, arith}
use Rattle.std.specs.List.{flat_map, range_with_len}
use Rattle.raster_core.specs.PackedRows.{packed_row, packed_rows}
use Rattle.raster_core.specs.Private.PackedRows.{pixel}
use Rattle.raster_core.specs.Words.{in_rows}
use Rattle.raster_core.proofs.TextRuns.{appended_more}
use Rattle.raster_core.proofs.packing.packed_rows.Goals as goal

-- The bytes of one row.
abbrev one : (words : List ℕ) (stride width y : ℕ) → List ℕ
one words stride width y = packed_row width (pixel width (in_rows words stride) y)

pub loop-y-preserved : goal.loop-y-preserved
loop-y-preserved c =
    appended_more (one c.args.rows.words.now c.args.rows.stride c.args.rows.width) c.loop-y.y [] c.loop-y.bytes.items _ _ c.loop-y.invariant c.in_ok-push_row.ensures refl

pub returns : goal.returns
unfolding packed_rows
returns c =
    let end : c.loop-y.y ≡ c.args.rows.height = omega arith in
    c.loop-y.invariant ∙ ap (λ (n : ℕ). flat_map (one c.args.rows.words.now c.args.rows.stride c.args.rows.width) (range_with_len 0 n)) end
