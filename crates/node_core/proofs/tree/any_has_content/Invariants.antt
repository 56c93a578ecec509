use Rattle.std.proofs.Common.{◌≡◌, take}
use Rattle.std.specs.List.{list_any}
use Rattle.node_core.specs.Classes.{has_content}
use Rattle.node_core.proofs.tree.any_has_content.Given as goal

abbrev pub invariant-loop-node : goal.invariant-loop-node
invariant-loop-node l = l.found ≡ list_any has_content (take l.node-index l.nodes)
