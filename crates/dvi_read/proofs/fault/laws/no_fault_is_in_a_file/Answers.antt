use Rattle.dvi_read.proofs.FaultLemmas.{no_fault}
use Rattle.dvi_read.proofs.fault.laws.no_fault_is_in_a_file.Goals as goal

pub returns : goal.returns
returns c = no_fault
