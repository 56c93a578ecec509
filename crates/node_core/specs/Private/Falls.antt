-- A list in a box nests less deeply than the list that contains the box (own; only the model of `NodeList` uses it).
use Rattle.std.specs.Prelude.{◌≤◌, max, ℕ, zero, suc, List, [], ◌∷◌, take, drop}
use Rattle.std.proofs.Common.{arith}
use denote.Param.Weighed.{most}
use Rattle.node_core.specs.declared.tree.Node.{Node}
use Rattle.node_core.specs.declared.tree.Node.TheVariants.{Glyph, FontKern, Kern, Glue, Penalty, Rule, Special, Box}
use Rattle.node_core.specs.declared.tree.HeapBox.TheDeep.{deep-Node}
use Rattle.node_core.specs.Nodes.{IsPlain, items_of}
use Rattle.node_core.specs.Private.Nodes.{list_size}

-- No node of a list is deeper than the boxes in the list nest. So a walk that recurses into the lists of its boxes ends (own).
pub most_le-list_size : (nodes : List Node) → max (most deep-Node nodes) 0 ≤ list_size (items_of nodes)
most_le-list_size [] = omega arith
most_le-list_size ((Glyph g) ∷ rest) = omega (arith, most_le-list_size rest)
most_le-list_size ((FontKern width) ∷ rest) = omega (arith, most_le-list_size rest)
most_le-list_size ((Kern width) ∷ rest) = omega (arith, most_le-list_size rest)
most_le-list_size ((Glue g) ∷ rest) = omega (arith, most_le-list_size rest)
most_le-list_size ((Penalty p) ∷ rest) = omega (arith, most_le-list_size rest)
most_le-list_size ((Rule sizes) ∷ rest) = omega (arith, most_le-list_size rest)
most_le-list_size ((Special text) ∷ rest) = omega (arith, most_le-list_size rest)
most_le-list_size ((Box shift b) ∷ rest) = omega (arith, most_le-list_size rest)

-- The same for a list after free slots, in which no box is (own).
pub slots_le-list_size :
    (first : ℕ) → (nodes : List Node) → IsPlain (take first nodes) → max (most deep-Node nodes) 0 ≤ list_size (items_of (drop first nodes))
slots_le-list_size zero nodes free = most_le-list_size nodes
slots_le-list_size (suc first) [] free = omega arith
slots_le-list_size (suc first) ((Glyph g) ∷ rest) free = omega (arith, slots_le-list_size first rest free)
slots_le-list_size (suc first) ((FontKern width) ∷ rest) free = omega (arith, slots_le-list_size first rest free)
slots_le-list_size (suc first) ((Kern width) ∷ rest) free = omega (arith, slots_le-list_size first rest free)
slots_le-list_size (suc first) ((Glue g) ∷ rest) free = omega (arith, slots_le-list_size first rest free)
slots_le-list_size (suc first) ((Penalty p) ∷ rest) free = omega (arith, slots_le-list_size first rest free)
slots_le-list_size (suc first) ((Rule sizes) ∷ rest) free = omega (arith, slots_le-list_size first rest free)
slots_le-list_size (suc first) ((Special text) ∷ rest) free = absurd (cc)
slots_le-list_size (suc first) ((Box shift b) ∷ rest) free = absurd (cc)
