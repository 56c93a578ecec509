use Rattle.std.proofs.Common.{◌≡◌, ℕ, ◌++◌, List, ◌∙◌, ap, refl, arith}
use Rattle.std.specs.List.{flat_map, range_with_len}
use Rattle.std.proofs.lemmas.Nat.{row_fits}
use Rattle.raster_core.specs.Words.{in_rows}
use Rattle.raster_core.specs.PlainText.{row_text, rows_text}
use Rattle.raster_core.specs.Private.RowPieces.{row_size}
use Rattle.raster_core.proofs.TextRuns.{appended_more, row_more}
use Rattle.raster_core.proofs.printing.append_rows.Goals as goal

-- The text of one row.
abbrev one : (words : List ℕ) (stride width y : ℕ) → List ℕ
one words stride width y = row_text width (λ x. in_rows words stride x y)

pub append_row-requires-clause-space : goal.append_row-requires-clause-space
append_row-requires-clause-space c =
    omega (arith, c.requires, c.loop-y.invariant.len, c.loop-y.invariant.capacity, row_fits c.loop-y.y (row_size c.args.rows.width) c.args.rows.height (row_size c.args.rows.width) c.loop-y-test.true (omega arith))

pub loop-y-preserved : goal.loop-y-preserved
loop-y-preserved c = record {
  written =
      appended_more (one c.args.rows.words.now c.args.rows.stride c.args.rows.width) c.loop-y.y c.args.out.now.items c.loop-y.out.items c.append_row.new.out.items _
      c.loop-y.invariant.written
      c.append_row.ensures.text
      refl;
  len = omega (arith, c.append_row.ensures.len, c.loop-y.invariant.len, row_more c.loop-y.y (row_size c.args.rows.width));
  capacity = omega (arith, c.append_row.ensures.capacity, c.loop-y.invariant.capacity);
}

pub returns : goal.returns
unfolding rows_text
returns c =
    let e : c.loop-y.y ≡ c.args.rows.height = omega arith in
    c.loop-y.invariant.written ∙ ap (λ n. c.args.out.now.items ++ flat_map (one c.args.rows.words.now c.args.rows.stride c.args.rows.width) (range_with_len 0 n)) e
