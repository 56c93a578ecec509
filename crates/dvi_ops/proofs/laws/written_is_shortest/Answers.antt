use Rattle.dvi_ops.proofs.Shortest as lemmas
use Rattle.dvi_ops.proofs.laws.written_is_shortest.Goals as goal

pub returns : goal.returns
returns c = lemmas.written_is_shortest
