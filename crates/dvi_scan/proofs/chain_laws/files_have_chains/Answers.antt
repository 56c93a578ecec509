use Rattle.dvi_scan.proofs.FaultLemmas.{file_chain, file_count, chain_fault}
use Rattle.dvi_scan.proofs.chain_laws.files_have_chains.Goals as goal

pub returns-clause-chain : goal.returns-clause-chain
returns-clause-chain c = file_chain

pub returns-clause-count : goal.returns-clause-count
returns-clause-count c = file_count

pub returns-clause-none : goal.returns-clause-none
returns-clause-none c = chain_fault
