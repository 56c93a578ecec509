use Rattle.std.proofs.Common.{List, ap}
use Rattle.std.specs.Prelude.{Ok, Err, if◌then◌else◌}
use Rattle.std.specs.List.{list_all}
use Rattle.scaled_core.specs.Dimensions.{fits}
use Rattle.node_core.specs.declared.tree.Node.{Node}
use Rattle.node_core.specs.Nodes.{items_of}
use Rattle.node_core.proofs.NodeLemmas.{nodes_of-items_of}
use Rattle.pack_core.specs.Boxes.{vbox, vbox_badness, vbox_numbers, vpack_result}
use Rattle.vert_core.proofs.laws.parts_are_packed.Goals as goal

pub returns : goal.returns
unfolding vpack_result vbox
returns c = λ target limit items.
    ap
    (λ (xs : List Node).
    if list_all fits (vbox_numbers target limit xs) then Ok (record { box_node = vbox target limit (items_of items); badness = vbox_badness target limit xs })
    else Err (record { list = items_of items }))
    (nodes_of-items_of items)
