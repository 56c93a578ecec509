use Rattle.dvi_scan.proofs.ReachedLemmas.{reached_first}
use Rattle.dvi_scan.proofs.step_laws.preamble_begins.Goals as goal

pub returns : goal.returns
returns c = reached_first
