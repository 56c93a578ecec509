use Rattle.dvi_scan.proofs.ReachedLemmas.{next_right, end_right, tail_right}
use Rattle.dvi_scan.proofs.step_laws.files_are_right.Goals as goal

pub returns-clause-next : goal.returns-clause-next
returns-clause-next c = next_right

pub returns-clause-end : goal.returns-clause-end
returns-clause-end c = end_right

pub returns-clause-tail : goal.returns-clause-tail
returns-clause-tail c = tail_right
