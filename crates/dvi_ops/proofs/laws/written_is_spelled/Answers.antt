use Rattle.dvi_ops.proofs.Spelled as lemmas
use Rattle.dvi_ops.proofs.laws.written_is_spelled.Goals as goal

pub returns : goal.returns
returns c = lemmas.written_is_spelled
