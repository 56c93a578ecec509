use Rattle.std.proofs.Common.{ap}
use Rattle.pack_core.specs.declared.pack.PackedBox.{PackedBox}
use Rattle.pack_core.proofs.Packing.{packed-vbox}
use Rattle.pack_core.proofs.laws.list_in_its_vbox.Goals as goal

pub returns-clause-box_node : goal.returns-clause-box_node
returns-clause-box_node c = λ target limit items. ap (λ (p : PackedBox). p.box_node) (packed-vbox target limit items)

pub returns-clause-badness : goal.returns-clause-badness
returns-clause-badness c = λ target limit items. ap (λ (p : PackedBox). p.badness) (packed-vbox target limit items)
