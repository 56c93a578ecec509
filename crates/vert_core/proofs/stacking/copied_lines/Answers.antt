use Rattle.std.proofs.Common.{◌∙◌, ◌++◌, List, length, reverse, flat_map, ap, sym, arith}
use Rattle.node_core.specs.declared.tree.Node.{Node}
use Rattle.vert_core.specs.declared.planning.PlannedLine.{PlannedLine}
use Rattle.vert_core.specs.Lines.{BrokenParagraph, broken_list}
use Rattle.vert_core.specs.Private.Planned.{stacked_nodes}
use Rattle.vert_core.proofs.Stacks.{count_places}
use Rattle.vert_core.proofs.PlannedLines.{count_copied}
use Rattle.vert_core.proofs.PlannedOrder.{copied_items}
use Rattle.vert_core.proofs.PlainItems.{known_plain, plain_copied, plain_filled}
use Rattle.vert_core.proofs.stacking.copied_lines.Goals as goal

pub stack_lines-requires-clause-plain : goal.stack_lines-requires-clause-plain
stack_lines-requires-clause-plain c = λ on.
    plain_filled c.in_ok-filled.filled.items _ c.in_ok-filled.ensures
    (plain_copied c.args.broken.now.nodes.now c.in_ok-plan.plan.lines.items
    (known_plain c.any_has_content.result c.args.broken.now.nodes.now c.any_has_content.ensures on))

pub stack_lines-requires-clause-space : goal.stack_lines-requires-clause-space
stack_lines-requires-clause-space c =
    omega (
      arith,
      c.in_ok-nodes.ensures.len,
      c.in_ok-nodes.ensures.capacity,
      ap (λ (xs : List PlannedLine). length (flat_map stacked_nodes xs)) c.in_ok-filled.ensures,
      count_copied c.args.broken.now.nodes.now c.in_ok-plan.plan.lines.items,
      c.in_ok-plan.ensures.count,
    )

pub returns-clause-ok : goal.returns-clause-ok
returns-clause-ok c =
    let ends = c.args.broken.now.ends.now in
    let p : BrokenParagraph = broken_list c.args.broken.now.nodes.now ends c.args.broken.now.params.now c.args.previous_depth in
    let filled = c.in_ok-filled.filled.items in
    c.stack_lines.ensures
    ∙ (ap (λ (xs : List Node). xs ++ flat_map stacked_nodes (reverse filled)) c.in_ok-nodes.ensures.items
    ∙ (ap (flat_map stacked_nodes) c.in_ok-filled.ensures
    ∙ copied_items p (length ends) c.in_ok-plan.plan.lines.items (sym (count_places ends)) c.in_ok-plan.ensures.lines))
