use Rattle.dvi_ops.proofs.WholeFile.{whole_file}
use Rattle.dvi_ops.proofs.dvi_file_laws.whole_is_file.Goals as goal

pub returns : goal.returns
returns c = whole_file
