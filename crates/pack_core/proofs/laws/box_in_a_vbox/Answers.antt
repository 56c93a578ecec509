use Rattle.std.proofs.Common.{refl}
use Rattle.pack_core.specs.Boxes.{vbox, vtop_box}
use Rattle.pack_core.proofs.laws.box_in_a_vbox.Goals as goal

pub returns-clause-width : goal.returns-clause-width
unfolding vbox
returns-clause-width c = λ target limit shift frame inner rest. refl

pub returns-clause-baseline : goal.returns-clause-baseline
unfolding vtop_box
returns-clause-baseline c = λ target limit shift frame inner rest. refl
