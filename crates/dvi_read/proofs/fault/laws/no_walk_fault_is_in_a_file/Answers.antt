use Rattle.dvi_read.proofs.WalkLemmas.{walk_fault}
use Rattle.dvi_read.proofs.fault.laws.no_walk_fault_is_in_a_file.Goals as goal

pub returns : goal.returns
returns c = walk_fault
