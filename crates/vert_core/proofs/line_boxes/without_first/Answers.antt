use Rattle.std.proofs.Common.{◌≡◌, ◌∙◌, ◌≤◌, ◌-◌, length, drop, sym, arith, true, false}
use Rattle.std.proofs.lemmas.List.{take_all, length-drop}
use Rattle.node_core.specs.Classes.{class_of, is_discardable}
use Rattle.vert_core.proofs.KeptItems.{without_dropped, without_kept}
use Rattle.vert_core.proofs.line_boxes.without_first.Goals as goal

pub returns-then-not-is_discardable : goal.returns-then-not-is_discardable
returns-then-not-is_discardable c =
    let list = c.args.nodes.now in
    let i = c.loop-index.index in
    let rest : length (drop i list) ≤ length list - i = omega (arith, length-drop i list) in
    let class : is_discardable (class_of c.index-nodes-index.result) ≡ false = cc in
    let kept = without_kept list i c.index-nodes-index.result c.loop-index-test.true c.index-nodes-index.is class in
    take_all (length list - i) (drop i list) rest ∙ sym kept ∙ sym c.loop-index.invariant

pub loop-index-preserved : goal.loop-index-preserved
loop-index-preserved c =
    let class : is_discardable (class_of c.index-nodes-index.result) ≡ true = cc in
    c.loop-index.invariant ∙ without_dropped c.args.nodes.now c.loop-index.index c.index-nodes-index.result c.loop-index-test.true c.index-nodes-index.is class
