use Rattle.dvi_scan.proofs.PassedLemmas.{one_definition}
use Rattle.dvi_scan.proofs.file_laws.selected_fonts_have_one_definition.Goals as goal

pub returns : goal.returns
returns c = one_definition
