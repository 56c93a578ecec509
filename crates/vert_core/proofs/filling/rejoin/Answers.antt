use Rattle.std.proofs.Common.{◌≡◌, ◌∙◌, ◌+◌, ◌++◌, ◌∷◌, ◌≤◌, [], List, length, length-append, reverse, flat_map, vec_len, vec_capacity, ap, arith}
use Rattle.node_core.specs.declared.tree.BoxNode.{BoxNode}
use Rattle.node_core.specs.declared.tree.Node.{Node}
use Rattle.node_core.specs.Nodes.{nodes_of}
use Rattle.vert_core.specs.Private.Planned.{items_in}
use Rattle.vert_core.proofs.Filled.{popped, popped_space, appended_ok}
use Rattle.vert_core.proofs.filling.rejoin.Goals as goal

pub loop-line-preserved : goal.loop-line-preserved
loop-line-preserved c =
    let line = c.in-Some.line in
    let nodes = c.loop-line.nodes in
    let before = c.loop-line.lines.items in
    let after = c.pop.new.self.items in
    let split : before ≡ after ++ line ∷ [] = c.in-Some.ensures.items in
    let part : c.into_vec-part.result.items ≡ items_in line = c.into_vec-part.ensures ∙ ap (λ (b : BoxNode). nodes_of b.list) c.into_inner.ensures in
    let space : vec_len nodes + vec_len c.into_vec-part.result ≤ vec_capacity nodes =
    omega (
      arith,
      popped_space items_in nodes.items before after line split,
      ap length c.loop-line.invariant.whole,
      length-append c.args.nodes.now.items (flat_map items_in (reverse c.args.lines.items)),
      c.requires,
      c.loop-line.invariant.capacity,
      ap length part,
      nodes.ok.0,
      c.into_vec-part.result.ok.0,
      c.args.nodes.now.ok.0,
    ) in
    let more : c.append.new.self.items ≡ nodes.items ++ items_in line =
    appended_ok c.append.result nodes.items c.into_vec-part.result.items c.append.new.self.items (c.append.ensures.succeeds space)
    c.append.ensures.items
    ∙ ap (λ (xs : List Node). nodes.items ++ xs) part in
    record {
      whole = popped items_in nodes.items c.append.new.self.items before after line split more ∙ c.loop-line.invariant.whole;
      capacity = omega (arith, c.append.ensures.capacity, c.loop-line.invariant.capacity);
    }
