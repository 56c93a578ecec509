use Rattle.std.proofs.Common.{◌≡◌, true}
use Rattle.std.specs.List.{list_all}
use Rattle.break_lines.specs.Legal.{up_to}
use Rattle.vert_core.specs.Lines.{broken_list, depth_before, line_fits}
use Rattle.vert_core.specs.Private.Measuring.{IsKnown}
use Rattle.vert_core.proofs.measuring.lines_fit.Given as goal

abbrev pub invariant-loop-line : goal.invariant-loop-line
invariant-loop-line l = record {
  known : IsKnown l.broken l.line l.from;
  depth : l.depth ≡ depth_before (broken_list l.broken.nodes.now l.broken.ends.now l.broken.params.now l.fn.previous_depth) l.line;
  fit : list_all (line_fits (broken_list l.broken.nodes.now l.broken.ends.now l.broken.params.now l.fn.previous_depth)) (up_to l.line) ≡ true;
}
