use Rattle.dvi_scan.proofs.PassedLemmas.{passed_file}
use Rattle.dvi_scan.proofs.file_laws.passed_is_file.Goals as goal

pub returns : goal.returns
returns c = λ metrics bytes post after last postamble chain pages framed count p. passed_file bytes post after last postamble chain framed metrics
    pages count p
