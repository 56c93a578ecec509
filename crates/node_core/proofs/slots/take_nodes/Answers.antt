use Rattle.std.proofs.Common.{◌∙◌, ◌<◌, ◌≤◌, length, arith}
use Rattle.std.proofs.lemmas.List.{length-set}
use Rattle.node_core.specs.declared.tree.Node.TheVariants.{Penalty}
use Rattle.std.proofs.Common.{pos}
use Rattle.node_core.proofs.FreeSlots.{free_more, others_more, taken_more}
use Rattle.node_core.proofs.slots.take_nodes.Goals as goal

pub loop-index-preserved : goal.loop-index-preserved
loop-index-preserved c =
    let old = c.args.nodes.now.items in
    let now = c.loop-index.nodes.items in
    let i = c.loop-index.index in
    let h = c.loop-index.invariant in
    let within : i < length old = omega arith in
    let within' : i < length now = omega (arith, h.length) in
    let above : c.args.first ≤ i = omega arith in
    let more = taken_more old now c.args.first i c.index_mut.result.now above within h.others c.index_mut.ensures.value in
    let moved = c.push_reserved.ensures.items in
    let left = c.replace.ensures.value in
    let so_far = h.taken in
    rw c.replace.ensures.after (record {
      taken = cc (more, moved, left, so_far);
      free = free_more now i within' h.free;
      others = others_more old now i (Penalty (pos 0)) h.others;
      length = length-set now i (Penalty (pos 0)) ∙ h.length;
      space = omega (arith, h.space, c.push_reserved.ensures.capacity);
    })
