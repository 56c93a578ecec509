use Rattle.std.proofs.Common.{◌≡◌, drop}
use Rattle.break_lines.specs.LineItems.{without_first}
use Rattle.vert_core.proofs.line_boxes.without_first.Given as goal

abbrev pub invariant-loop-index : goal.invariant-loop-index
invariant-loop-index l = without_first l.nodes ≡ without_first (drop l.index l.nodes)
