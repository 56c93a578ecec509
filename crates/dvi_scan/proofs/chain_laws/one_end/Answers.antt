use Rattle.dvi_scan.proofs.EndLemmas.{one_end}
use Rattle.dvi_scan.proofs.chain_laws.one_end.Goals as goal

pub returns : goal.returns
returns c = one_end
