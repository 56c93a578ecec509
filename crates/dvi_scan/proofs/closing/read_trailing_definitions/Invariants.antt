use Rattle.std.proofs.Common.{◌≤◌, ◌-◌}
use Rattle.dvi_scan.specs.Closing.{ClosesTo}
use Rattle.dvi_scan.proofs.closing.read_trailing_definitions.Given as goal

-- The instructions before the place are right.
abbrev pub invariant-loop-at : goal.invariant-loop-at
invariant-loop-at l = (l.from ≤ l.at) × (l.at ≤ l.to) × ClosesTo l.bytes l.from l.at l.initial.known l.known

abbrev pub decreases-loop-at : goal.decreases-loop-at
decreases-loop-at l = l.to - l.at
