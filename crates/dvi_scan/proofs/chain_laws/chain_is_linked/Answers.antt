use Rattle.dvi_scan.proofs.LinkLemmas.{one_chain}
use Rattle.dvi_scan.proofs.FaultLemmas.{linked, chained}
use Rattle.dvi_scan.proofs.chain_laws.chain_is_linked.Goals as goal

pub returns-clause-one : goal.returns-clause-one
returns-clause-one c = one_chain

pub returns-clause-linked : goal.returns-clause-linked
returns-clause-linked c = linked

pub returns-clause-chained : goal.returns-clause-chained
returns-clause-chained c = chained
