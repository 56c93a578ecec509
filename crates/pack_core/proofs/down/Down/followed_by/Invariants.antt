use Rattle.std.proofs.Common.{ℕ, ◌+◌, ◌++◌, List, take}
use Rattle.node_core.specs.declared.tree.Node.{Node}
use Rattle.pack_core.specs.Tails.{AreMeasuresOf, HasGoneDown}
use Rattle.pack_core.proofs.down.Down.followed_by.Given as goal

abbrev pub invariant-loop-node : goal.invariant-loop-node
invariant-loop-node l = record {
  value : (before : List Node) → AreMeasuresOf before l.fn.self → AreMeasuresOf (before ++ take l.node-index l.nodes) l.down;
  bound : (n : ℕ) → HasGoneDown n l.fn.self → HasGoneDown (n + l.node-index) l.down;
}
