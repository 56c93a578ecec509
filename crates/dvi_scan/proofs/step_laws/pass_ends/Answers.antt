use Rattle.dvi_scan.proofs.ReachedLemmas.{reached_end}
use Rattle.dvi_scan.proofs.step_laws.pass_ends.Goals as goal

pub returns : goal.returns
returns c = reached_end
