use Rattle.std.proofs.Common.{◌≡◌, ◌≤◌, length}
use Rattle.std.specs.List.{filter}
use Rattle.break_lines.specs.Legal.{is_legal, up_to}
use Rattle.break_lines.proofs.list.count_places.Given as goal

abbrev pub invariant-loop-index : goal.invariant-loop-index
invariant-loop-index l = record {
  count : l.count ≡ length (filter (is_legal l.nodes) (up_to l.index));
  few : l.count ≤ l.index;
}
