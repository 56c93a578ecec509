-- No line feed is among the bytes that were looked at.
use Rattle.std.proofs.Common.{◌≤◌, length, drop}
use Rattle.std.specs.Prelude.{Contains}
use Rattle.boxglue_program.proofs.session.whole_size.Given as goal

abbrev pub invariant-loop-size : goal.invariant-loop-size
invariant-loop-size l = record {
  within : l.size ≤ length l.piece;
  rest : Contains (drop l.size l.piece) 10 → ⊥;
}

abbrev pub decreases-loop-size : goal.decreases-loop-size
decreases-loop-size l = l.size
