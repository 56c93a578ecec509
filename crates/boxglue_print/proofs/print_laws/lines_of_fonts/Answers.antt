use Rattle.boxglue_print.proofs.FontLemmas.{known_font_lines}
use Rattle.boxglue_print.proofs.print_laws.lines_of_fonts.Goals as goal

pub returns : goal.returns
returns c = known_font_lines
