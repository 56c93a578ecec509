use Rattle.dvi_ops.proofs.KnownFiles.{two_page_is_file}
use Rattle.dvi_ops.proofs.dvi_file_laws.two_page_file_is_a_file.Goals as goal

pub returns : goal.returns
returns c = two_page_is_file
