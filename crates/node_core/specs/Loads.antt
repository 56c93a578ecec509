-- What a job counts about the boxes that it ships (own; the clauses of the writer and of the machine speak of it).
use Rattle.std.specs.Prelude.{ℕ, ◌+◌}
use Rattle.node_core.specs.declared.tree.BoxNode.{BoxNode}
use Rattle.node_core.specs.Nodes.{box_count, box_text}

-- The number of nodes in some boxes together, and the number of bytes in the texts of their specials (own).
pub record Load : Type 0 where
  pub nodes : ℕ
  pub text : ℕ

-- The load with one more box (own).
abbrev pub load_with_box : Load → BoxNode → Load
load_with_box load b = record { nodes = load.nodes + box_count b; text = load.text + box_text b }
