use Rattle.std.proofs.Common.{refl}
use Rattle.pack_core.specs.Boxes.{hbox}
use Rattle.pack_core.proofs.laws.box_in_an_hbox.Goals as goal

pub returns-clause-width : goal.returns-clause-width
unfolding hbox
returns-clause-width c = λ shift frame inner rest. refl

pub returns-clause-height : goal.returns-clause-height
unfolding hbox
returns-clause-height c = λ target shift frame inner rest. refl

pub returns-clause-depth : goal.returns-clause-depth
unfolding hbox
returns-clause-depth c = λ target shift frame inner rest. refl
