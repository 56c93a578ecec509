use Rattle.std.proofs.Common.{◌≡◌, ◌+◌, ◌*◌, ◌^◌, ◌≤◌}
use Rattle.std.specs.Prelude.{get_or}
use Rattle.std.specs.Int.{sum_through}
use Rattle.break_lines.proofs.list_meter.ListMeter.all_trials.Given as goal

abbrev pub invariant-loop-place : goal.invariant-loop-place
invariant-loop-place l = record {
  all : l.all ≡ sum_through (λ from. get_or l.self.trials.items from 0) l.place;
  few : l.all ≤ 2 ^ 64 * (l.place + 1);
}
