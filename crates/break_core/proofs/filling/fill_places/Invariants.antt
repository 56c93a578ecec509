use Rattle.std.proofs.Common.{◌≡◌, ◌+◌, ◌<◌, ◌≤◌, length, [], ◌∷◌}
use Rattle.break_core.specs.Private.Active.{stops_at, problem_leaving_out, groups_of, live_of, AreOver, HaveBest, IsFilled, IsCounted, TrialsOnlyGrow}
use Rattle.break_core.specs.Private.Near.{HaveNeighbours}
use Rattle.break_core.specs.Private.Offers.{IsEmpty}
use Rattle.break_core.proofs.Counts.{start_group}
use Rattle.break_core.proofs.filling.fill_places.Given as goal

abbrev pub invariant-loop-before : goal.invariant-loop-before
invariant-loop-before g l = record {
  facts : g.M.Meter.facts l.meter ≡ g.M.Meter.facts l.initial.meter;
  counted : IsCounted (stops_at (g.M.Meter.facts l.initial.meter) l.rules.params.now l.rules.stop_rule) l.before (g.M.Meter.trials l.initial.meter) (g.M.Meter.trials l.meter);
  filled : IsFilled (problem_leaving_out (g.M.Meter.facts l.initial.meter) l.rules.params.now l.rules.bound l.rules.stop_rule) (stops_at (g.M.Meter.facts l.initial.meter) l.rules.params.now l.rules.stop_rule) (l.before + 1) l.reached.table.items (groups_of (live_of l.reached.live));
  over : AreOver (g.M.Meter.facts l.initial.meter) l.rules.params.now (l.before + 1) (live_of l.reached.live);
  best : HaveBest l.reached.table.items l.rules.params.now (live_of l.reached.live);
  known : HaveNeighbours l.reached.table.items l.reached.neighbours.items;
  first_bounded : l.reached.live.first ≤ length l.reached.live.list.items;
  kept : TrialsOnlyGrow (g.M.Meter.trials l.initial.meter) (g.M.Meter.trials l.meter);
  begins : l.before ≡ 0 → groups_of (live_of l.reached.live) ≡ start_group ∷ [];
  started : 0 < l.before → g.M.Meter.trials l.initial.meter 0 < g.M.Meter.trials l.meter 0;
  empty : IsEmpty l.rules.params.now.first_lines l.row;
}
