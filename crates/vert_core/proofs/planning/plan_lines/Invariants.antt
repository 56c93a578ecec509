use Rattle.std.proofs.Common.{◌≡◌, ◌≤◌, ◌*◌, length, map, true, flat_map, vec_len, vec_capacity}
use Rattle.std.specs.List.{list_all}
use Rattle.break_lines.specs.Legal.{up_to}
use Rattle.vert_core.specs.Lines.{broken_list, depth_before, line_fits}
use Rattle.vert_core.specs.Private.Measuring.{IsKnown}
use Rattle.vert_core.specs.Private.Planned.{plan_of_line, stacked_nodes}
use Rattle.vert_core.proofs.planning.plan_lines.Given as goal

abbrev pub invariant-loop-line : goal.invariant-loop-line
invariant-loop-line l = record {
  lines : l.lines.items ≡ map (plan_of_line (broken_list l.broken.nodes.now l.broken.ends.now l.broken.params.now l.fn.previous_depth)) (up_to l.line);
  count : l.count ≡ length (flat_map stacked_nodes l.lines.items);
  few : l.count ≤ 3 * l.line;
  space : vec_len l.lines ≡ l.line;
  capacity : length l.broken.ends.now ≤ vec_capacity l.lines;
  known : IsKnown l.broken l.line l.from;
  depth : l.depth ≡ depth_before (broken_list l.broken.nodes.now l.broken.ends.now l.broken.params.now l.fn.previous_depth) l.line;
  fit : list_all (line_fits (broken_list l.broken.nodes.now l.broken.ends.now l.broken.params.now l.fn.previous_depth)) (up_to l.line) ≡ true;
}
