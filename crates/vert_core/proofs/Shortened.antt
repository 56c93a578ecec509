-- A list to which a node was appended, truncated to its old length.
use Rattle.std.proofs.Common.{◌≡◌, ◌∙◌, ℕ, Result, Ok, Err, [], ◌∷◌, ◌++◌, length, take, false, ap}
use Rattle.std.specs.Prelude.{OnOk}
use Rattle.std.specs.Result.{is_err}
use Rattle.node_core.specs.declared.tree.Node.{Node}
use Rattle.node_core.specs.Items.{Items}
use Rattle.node_core.specs.Nodes.{items_of, nodes_of}
use Rattle.node_core.proofs.NodeLemmas.{nodes_of-items_of, items_of-nodes_of}
use Rattle.std.proofs.Math.Seq.{take-append_seam}

pub shortened :
    {E : Type 0} (pushed : Result (Unit {0}) E) (old longer new : Items) (node : Node) (count : ℕ) → is_err pushed ≡ false
    → OnOk pushed (longer ≡ items_of (nodes_of old ++ node ∷ [])) → count ≡ length (nodes_of old) → new ≡ items_of (take count (nodes_of longer)) → new ≡ old
shortened (Ok u) old longer new node count ok is long short =
    short
    ∙ rw (long, is, nodes_of-items_of (nodes_of old ++ node ∷ [])) (ap items_of (take-append_seam (nodes_of old) (node ∷ [])))
    ∙ items_of-nodes_of old
shortened (Err e) old longer new node count ok is long short = absurd (cc)
