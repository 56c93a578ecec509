use Rattle.boxglue_print.proofs.PrintLemmas.{known_lines}
use Rattle.boxglue_print.proofs.print_laws.lines_of_refusals.Goals as goal

pub returns : goal.returns
returns c = known_lines
