use Rattle.dvi_scan.proofs.WidthLemmas.{one_width}
use Rattle.dvi_scan.proofs.pass_laws.one_width_is_asked.Goals as goal

pub returns : goal.returns
returns c = one_width
