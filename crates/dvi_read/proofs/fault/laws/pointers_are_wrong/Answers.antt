use Rattle.dvi_read.proofs.PointerLemmas.{stray_bop, stray_pointer, unmet_pointer}
use Rattle.dvi_read.proofs.fault.laws.pointers_are_wrong.Goals as goal

pub returns-clause-bop : goal.returns-clause-bop
returns-clause-bop c = stray_bop

pub returns-clause-stray : goal.returns-clause-stray
returns-clause-stray c = stray_pointer

pub returns-clause-unmet : goal.returns-clause-unmet
returns-clause-unmet c = unmet_pointer
