use Rattle.std.proofs.Common.{length, ◌-◌, ◌≡◌, ◌≤◌, take}
use Rattle.dvi_device.proofs.rest.common_front.Given as goal

abbrev pub invariant-loop-count : goal.invariant-loop-count
invariant-loop-count l = record {
  one : l.count ≤ length l.one;
  other : l.count ≤ length l.other;
  same : take l.count l.one ≡ take l.count l.other;
}

abbrev pub decreases-loop-count : goal.decreases-loop-count
decreases-loop-count l = length l.one - l.count
