-- One more byte, or all bytes of the row.
use Rattle.std.proofs.Common.{◌≡◌, ◌∙◌, ◌++◌, ◌*◌, ℕ, map, ap, sym, arith}
use Rattle.std.specs.Int.{div_ceil}
use Rattle.std.specs.List.{range_with_len}
use Rattle.std.proofs.lemmas.List.{append-nil}
use Rattle.raster_core.specs.PackedRows.{packed_byte, packed_row}
use Rattle.raster_core.specs.Private.PackedRows.{pixel}
use Rattle.raster_core.specs.Words.{in_rows}
use Rattle.raster_core.proofs.PackedBytes.{more_bytes}
use Rattle.raster_core.proofs.packing.push_row.Goals as goal

pub loop-k-init : goal.loop-k-init
loop-k-init c = sym (append-nil c.args.out.now.items)

pub loop-k-preserved : goal.loop-k-preserved
loop-k-preserved c =
    more_bytes (pixel c.args.rows.width (in_rows c.args.rows.words.now c.args.rows.stride) c.args.y) c.loop-k.k c.args.out.now.items c.loop-k.out.items _
    c.packed_byte.result c.loop-k.invariant c.in_ok-push.ensures.items c.packed_byte.ensures

pub returns : goal.returns
unfolding packed_row
returns c =
    let black = pixel c.args.rows.width (in_rows c.args.rows.words.now c.args.rows.stride) c.args.y in
    let end : c.loop-k.k ≡ div_ceil c.args.rows.width 8 = omega (arith, c.div_ceil-k-end.ensures) in
    c.loop-k.invariant
    ∙ ap (λ (n : ℕ). c.args.out.now.items ++ map (λ (i : ℕ). packed_byte black (8 * i)) (range_with_len 0 n)) end
