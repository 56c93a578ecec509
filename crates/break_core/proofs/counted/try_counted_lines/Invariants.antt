use Rattle.std.proofs.Common.{false, ◌≡◌, ◌+◌, ◌-◌, ◌≤◌, ◌<◌, ℕ, length, drop, take}
use Rattle.std.specs.Prelude.{slice_get}
use Rattle.break_core.specs.Private.Active.{stops_at, problem_leaving_out, groups_of, live_of, AreOver, HaveBest, IsActive, IsSwept, TrialsOnlyGrow, WasTried}
use Rattle.break_core.specs.Private.Held.{AreEarlier, IsRowUpTo}
use Rattle.break_core.proofs.Active.{IsFront}
use Rattle.break_core.proofs.counted.try_counted_lines.Given as goal

abbrev pub invariant-loop-index : goal.invariant-loop-index
invariant-loop-index g l = record {
  facts : g.M.Meter.facts l.meter ≡ g.M.Meter.facts l.initial.meter;
  swept : IsSwept (stops_at (g.M.Meter.facts l.initial.meter) l.at.rules.now.params.now l.at.rules.now.stop_rule) l.at.place (g.M.Meter.trials l.initial.meter) (g.M.Meter.trials l.meter);
  kept : TrialsOnlyGrow (g.M.Meter.trials l.initial.meter) (g.M.Meter.trials l.meter);
  tried : l.initial.lives.first < l.index → WasTried (groups_of (live_of l.initial.lives)) (g.M.Meter.trials l.initial.meter) (g.M.Meter.trials l.meter);
  at : ℕ;
  low : ℕ;
  fresh : (a : ℕ) → low ≤ a → g.M.Meter.trials l.meter a ≤ g.M.Meter.trials l.initial.meter a;
  live : IsActive (problem_leaving_out (g.M.Meter.facts l.initial.meter) l.at.rules.now.params.now l.at.rules.now.bound l.at.rules.now.stop_rule) (stops_at (g.M.Meter.facts l.initial.meter) l.at.rules.now.params.now l.at.rules.now.stop_rule) l.at.table.now l.at.place l.at.place at low (drop l.index (groups_of l.initial.lives.list.items));
  earlier : AreEarlier (problem_leaving_out (g.M.Meter.facts l.initial.meter) l.at.rules.now.params.now l.at.rules.now.bound l.at.rules.now.stop_rule) l.at.table.now l.at.place at low;
  row : IsRowUpTo (problem_leaving_out (g.M.Meter.facts l.initial.meter) l.at.rules.now.params.now l.at.rules.now.bound l.at.rules.now.stop_rule) l.at.rules.now.params.now l.at.rules.now.bound l.at.table.now l.at.place l.at.penalty l.held at low l.row.counted.items;
  begun : l.initial.lives.first ≤ l.index;
  first_bounded : l.lives.first ≤ l.kept;
  kept_bounded : l.kept ≤ l.index;
  count : length l.lives.list.items ≡ length l.initial.lives.list.items;
  rest : (k : ℕ) → l.index ≤ k → slice_get l.lives.list.items k ≡ slice_get l.initial.lives.list.items k;
  front : IsFront (problem_leaving_out (g.M.Meter.facts l.initial.meter) l.at.rules.now.params.now l.at.rules.now.bound l.at.rules.now.stop_rule) (stops_at (g.M.Meter.facts l.initial.meter) l.at.rules.now.params.now l.at.rules.now.stop_rule) l.at.table.now l.at.place l.at.place at low (groups_of (drop l.lives.first (take l.kept l.lives.list.items)));
  over : AreOver (g.M.Meter.facts l.initial.meter) l.at.rules.now.params.now (l.at.place + 1) (drop l.lives.first (take l.kept l.lives.list.items));
  best : HaveBest l.at.table.now l.at.rules.now.params.now (drop l.lives.first (take l.kept l.lives.list.items));
  index_bounded : l.index ≤ length l.initial.lives.list.items;
  untouched : l.offered ≡ false → l.row.counted.items ≡ l.initial.row.counted.items;
  offers : l.row.offers ≡ l.initial.row.offers;
}

abbrev pub decreases-loop-index : goal.decreases-loop-index
decreases-loop-index g l = length l.initial.lives.list.items - l.index
