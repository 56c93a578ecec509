use Rattle.dvi_scan.proofs.EndLemmas.{frame_ends}
use Rattle.dvi_scan.proofs.FaultLemmas.{end_fault}
use Rattle.dvi_scan.proofs.chain_laws.files_have_ends.Goals as goal

pub returns-clause-end : goal.returns-clause-end
returns-clause-end c = frame_ends

pub returns-clause-none : goal.returns-clause-none
returns-clause-none c = end_fault
