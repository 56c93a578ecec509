use Rattle.dvi_ops.proofs.Frames.{one_list_of_pages}
use Rattle.dvi_ops.proofs.dvi_file_laws.one_file.Goals as goal

pub returns : goal.returns
returns c = one_list_of_pages
