use Rattle.std.proofs.Common.{◌≡◌, ◌≤◌, ◌++◌, ◌+◌, ◌*◌, ℕ, Bool, length, min, vec_len, vec_capacity}
use Rattle.raster_core.specs.Private.RowPieces.{columns_text, digits}
use Rattle.raster_core.proofs.printing.append_lines.Given as goal

abbrev pub invariant-loop-line : goal.invariant-loop-line
invariant-loop-line l = record {
  written :
      (black : ℕ → Bool) → l.row ≡ digits black 0 (length l.row) → l.out.items ≡ l.fn.out.items ++ columns_text l.width black 0 (min l.width (70 * l.line));
  len : vec_len l.out ≡ vec_len l.fn.out + (min l.width (70 * l.line) + l.line);
  capacity : vec_capacity l.fn.out ≤ vec_capacity l.out;
}
