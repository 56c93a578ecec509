use Rattle.dvi_scan.proofs.ClosingLemmas.{broken_closing}
use Rattle.dvi_scan.proofs.closing_laws.faults_are_true.Goals as goal

pub returns : goal.returns
returns c = broken_closing
