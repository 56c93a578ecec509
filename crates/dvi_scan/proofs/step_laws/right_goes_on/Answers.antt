use Rattle.dvi_scan.proofs.ReachedLemmas.{reached_next}
use Rattle.dvi_scan.proofs.step_laws.right_goes_on.Goals as goal

pub returns : goal.returns
returns c = reached_next
