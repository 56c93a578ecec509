use Rattle.dvi_ops.proofs.NoFiles.{padding_grows}
use Rattle.dvi_ops.proofs.dvi_file_laws.padding_may_grow.Goals as goal

pub returns : goal.returns
returns c = padding_grows
