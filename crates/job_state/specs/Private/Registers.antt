-- How the registers of a job are kept (own; within the crate alone).
use Rattle.std.specs.Prelude.{ℕ, ◌-◌, List, length, ◌++◌, Option, None, replicate, IsSomeAnd}
use Rattle.std.specs.Option.{IfSome}
use Rattle.node_core.specs.declared.tree.BoxNode.{BoxNode}
use Rattle.node_core.specs.Nodes.{nodes_of}
use Rattle.vert_core.specs.declared.tails.Tails.{Tails}
use Rattle.vert_core.specs.Tails.{AreTails}

-- A table of n places, of which these are the first; those above hold nothing.
unfoldable pub filled_up : {A : Type 0} → ℕ → List (Option A) → List (Option A)
filled_up n first = first ++ replicate (n - length first) None

-- If tails are given, the register holds a box, and they are the tails of its list.
abbrev pub HasTails : Option Tails → Option BoxNode → Type 0
HasTails tails held = IfSome tails (λ known. IsSomeAnd held (λ b. AreTails known (nodes_of b.list)))
