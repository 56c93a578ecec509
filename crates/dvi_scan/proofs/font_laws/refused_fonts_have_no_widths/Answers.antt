use Rattle.dvi_scan.proofs.RefusalLemmas.{no_widths}
use Rattle.dvi_scan.proofs.font_laws.refused_fonts_have_no_widths.Goals as goal

pub returns : goal.returns
returns c = no_widths
