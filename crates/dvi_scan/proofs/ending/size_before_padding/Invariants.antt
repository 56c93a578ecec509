use Rattle.std.proofs.Common.{◌≡◌, ◌≤◌, ◌<◌, ℕ, List, length, slice_index}
use Rattle.dvi_scan.proofs.ending.size_before_padding.Given as goal

-- After the end so far there are only bytes 223.
pub record TrailedSo (bytes : List ℕ) (end : ℕ) : Type 0 where
  pub high : end ≤ length bytes
  pub after : (k : ℕ) → end ≤ k → k < length bytes → slice_index bytes k ≡ 223

abbrev pub invariant-loop-end : goal.invariant-loop-end
invariant-loop-end l = TrailedSo l.bytes l.end

abbrev pub decreases-loop-end : goal.decreases-loop-end
decreases-loop-end l = l.end
