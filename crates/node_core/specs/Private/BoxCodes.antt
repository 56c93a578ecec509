-- How the logic stores a box (own; only the model of `HeapBox` uses it).
use Rattle.std.proofs.Common.{refl}
use Rattle.std.specs.Coded.{Coded, code_by, coded×}
use Rattle.node_core.specs.declared.tree.BoxNode.{BoxNode}
use Rattle.node_core.specs.Private.Codes.{coded_frame, coded_items}
use Rattle.node_core.specs.Items.{BoxFrame, Items}

-- A box is stored as its frame and its list (own).
abbrev pub coded_box : Coded BoxNode
coded_box =
    code_by (BoxFrame × Items) (coded× coded_frame coded_items)
    (λ b. (record { kind = b.kind; width = b.width; height = b.height; depth = b.depth; setting = b.setting }, b.list))
    (λ p. record { kind = p.0.kind; width = p.0.width; height = p.0.height; depth = p.0.depth; setting = p.0.setting; list = p.1 }) (λ _. refl)
