use Rattle.std.proofs.Common.{◌≤◌}
use Rattle.break_lines.specs.Private.Marks.{HasMeasuredFrom}
use Rattle.break_lines.proofs.walk.BreakWalk.pass_run.Given as goal

abbrev pub invariant-loop-index : goal.invariant-loop-index
invariant-loop-index l = record {
  within : l.index ≤ l.end;
  walked : HasMeasuredFrom l.nodes l.index
      (record l.self { sums = record l.self.sums { width = l.width }; begin = l.begin; height = l.height; depth = l.depth });
}

abbrev pub decreases-loop-index : goal.decreases-loop-index
decreases-loop-index l = l.index
