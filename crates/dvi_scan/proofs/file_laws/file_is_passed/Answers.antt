use Rattle.dvi_scan.proofs.PassedLemmas.{file_passed}
use Rattle.dvi_scan.proofs.file_laws.file_is_passed.Goals as goal

pub returns : goal.returns
returns c = λ metrics bytes post after last postamble chain pages framed f. file_passed bytes post after last postamble chain framed metrics pages f
