-- No check refuses a vbox that was split.
use Rattle.std.proofs.Common.{◌≡◌, ◌∙◌, false, sym, arith}
use Rattle.node_core.specs.declared.tree.Kind.TheVariants.{Vertical}
use Rattle.node_core.specs.Nodes.{nodes_of}
use Rattle.job_machine.specs.Checks.{is_other}
use Rattle.job_machine.proofs.OtherKinds.{other_kinds_reversed}
use Rattle.job_state.proofs.SplitRefusals.{vbox_free, left_by}
use Rattle.job_state.proofs.splits.split_box.Goals as goal

pub returns-in-Ok-clause-ok : goal.returns-in-Ok-clause-ok
returns-in-Ok-clause-ok c =
    let vertical : is_other Vertical c.args.box_node.kind ≡ false = grind (arith, other_kinds_reversed) in
    vbox_free c.args.params.now c.args.height c.args.box_node vertical c.in-Ok.ensures.ok

pub returns-in-Err-clause-growth : goal.returns-in-Err-clause-growth
returns-in-Err-clause-growth c =
    λ none.
    left_by c.args.params.now c.args.height (nodes_of c.args.box_node.list) c.in-Err.unsplit.fault c.in-Err.ensures.fault c.in-Err.ensures.growth (sym c.split_refusal.ensures ∙ none)
