use Rattle.std.proofs.Common.{◌≡◌, length, reverse}
use Rattle.dvi_scan.specs.Reached.{after_bop}
use Rattle.dvi_read.proofs.check.instruction.take_place.Given as goal

-- The result for the bop is the same with the places that are left.
abbrev pub invariant-loop-place : goal.invariant-loop-place
invariant-loop-place l = after_bop l.at l.missed (reverse l.left.now) ≡ after_bop l.at l.fn.missed (reverse l.fn.left.now)

abbrev pub decreases-loop-place : goal.decreases-loop-place
decreases-loop-place l = length l.left.now
