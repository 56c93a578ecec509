use Rattle.std.proofs.Common.{drop}
use Rattle.dvi_ops.specs.Table.{signed}
use Rattle.dvi_scan.proofs.ChainLemmas.{Goes, size_of}
use Rattle.dvi_scan.proofs.page_chain.walk.Given as goal

-- The pages so far lead to a pointer that names the next.
abbrev pub invariant-loop-named : goal.invariant-loop-named
invariant-loop-named l = Goes l.bytes l.at l.bound (signed 4 (drop l.at l.bytes)) l.places.items l.named

abbrev pub decreases-loop-named : goal.decreases-loop-named
decreases-loop-named l = size_of l.named
