use Rattle.dvi_scan.proofs.PartLemmas.{passed_parts}
use Rattle.dvi_scan.proofs.pass_laws.passed_are_parts.Goals as goal

pub returns : goal.returns
returns c = passed_parts
