use Rattle.std.proofs.Common.{◌≤◌, length}
use Rattle.break_lines.specs.Private.Marks.{HasMeasuredFrom}
use Rattle.break_lines.proofs.walk.marks_of.Given as goal

abbrev pub invariant-loop-index : goal.invariant-loop-index
invariant-loop-index l = record {
  within : l.index ≤ length l.nodes;
  walked : HasMeasuredFrom l.nodes l.index l.walk;
}

abbrev pub decreases-loop-index : goal.decreases-loop-index
decreases-loop-index l = l.index
