use Rattle.std.proofs.Common.{◌≡◌, ℕ, ◌<◌, length, get_or}
use Rattle.tfm_core.specs.Private.FontView.{IsFontRow, no_row}
use Rattle.tfm_core.proofs.font.rows.Given as goal

abbrev pub invariant-loop-code : goal.invariant-loop-code
invariant-loop-code l = record {
  count : length l.rows.items ≡ l.code;
  each : (k : ℕ) → k < l.code → IsFontRow l.file k (get_or l.rows.items k no_row);
}
