use Rattle.std.proofs.Common.{◌≡◌, ◌≤◌, drop}
use Rattle.vert_core.specs.Split.{from_box_or_rule}
use Rattle.vert_core.proofs.plan.rest_start.Given as goal

abbrev pub invariant-loop-start : goal.invariant-loop-start
invariant-loop-start l = record {
  rest : from_box_or_rule (drop l.start l.nodes) ≡ from_box_or_rule (drop l.place l.nodes);
  after : l.place ≤ l.start;
}
