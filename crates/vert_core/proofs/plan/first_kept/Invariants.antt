use Rattle.std.proofs.Common.{◌≡◌, ◌≤◌, drop}
use Rattle.vert_core.specs.Split.{from_box_or_rule, specials_above}
use Rattle.vert_core.proofs.plan.first_kept.Given as goal

abbrev pub invariant-loop-first : goal.invariant-loop-first
invariant-loop-first l = record {
  specials : specials_above (drop l.first l.nodes) ≡ specials_above (drop l.place l.nodes);
  solid : from_box_or_rule (drop l.first l.nodes) ≡ from_box_or_rule (drop l.place l.nodes);
  after : l.place ≤ l.first;
}
