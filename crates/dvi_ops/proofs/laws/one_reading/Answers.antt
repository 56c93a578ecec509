use Rattle.dvi_ops.proofs.FrontLaws as lemmas
use Rattle.dvi_ops.proofs.laws.one_reading.Goals as goal

pub returns : goal.returns
returns c = lemmas.one_reading
