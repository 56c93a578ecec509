use Rattle.dvi_ops.proofs.Forests.{flat-beside, meaning-beside, nests-beside}
use Rattle.dvi_ops.proofs.page_body_laws.one_after_another.Goals as goal

pub returns : goal.returns
returns c = record { instructions = flat-beside; marks = meaning-beside; depth = nests-beside }
