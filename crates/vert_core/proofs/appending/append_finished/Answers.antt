use Rattle.std.proofs.Common.{◌≡◌, ◌∙◌, ◌+◌, ◌++◌, List, length, ap, sym, subst, rules, arith, refl}
use Rattle.node_core.specs.declared.limits.TheConstants.{MAX_DEPTH, MAX_ITEMS}
use Rattle.node_core.specs.declared.tree.Node.{Node}
use Rattle.node_core.specs.Nodes.{IsPlain}
use Rattle.node_core.proofs.NodeLemmas.{nodes_of-items_of}
use Rattle.vert_core.specs.Lines.{vertical_items}
use Rattle.vert_core.specs.Paragraphs.{with_breaks, IsUnsetList}
use Rattle.vert_core.specs.Private.Planned.{AreInOrder}
use Rattle.vert_core.specs.Private.PlannedParagraphs.{IsPlanned}
use Rattle.vert_core.proofs.AppendedLines.{set_of, planned_setting, planned_levels, planned_count}
use Rattle.vert_core.proofs.PlannedOrder.{broken_in_order, moved_items, moved_count}
use Rattle.vert_core.proofs.appending.append_finished.Goals as goal

pub returns-in-Err-clause-refused : goal.returns-in-Err-clause-refused
returns-in-Err-clause-refused c =
    subst (λ (l : List Node). IsUnsetList l c.args.params.now c.args.previous_depth c.in-Err.fault) c.deref.ensures.value c.in-Err.ensures.refused

pub returns-then-levels_of_lines-gt-MAX_DEPTH-clause-refused : goal.returns-then-levels_of_lines-gt-MAX_DEPTH-clause-refused
returns-then-levels_of_lines-gt-MAX_DEPTH-clause-refused c =
    let list = c.args.nodes.now.items in
    let params = c.args.params.now in
    let previous = c.args.previous_depth in
    let paragraph = c.in-Ok.planned in
    let planned : IsPlanned list params previous paragraph = subst (λ (l : List Node). IsPlanned l params previous paragraph) c.deref.ensures.value c.in-Ok.ensures.ok in
    let levels = planned_levels list params previous paragraph planned c.deref-2.result.now c.deref-3.result.now c.levels_of_lines.result c.deref-2.ensures.value c.deref-3.ensures.value c.levels_of_lines.ensures in
    (set_of list params previous paragraph, planned_setting list params previous paragraph planned, omega (arith, levels, c.if-levels_of_lines-gt-MAX_DEPTH.true))

pub returns-then-saturating_add-gt-MAX_ITEMS-clause-refused : goal.returns-then-saturating_add-gt-MAX_ITEMS-clause-refused
returns-then-saturating_add-gt-MAX_ITEMS-clause-refused c =
    let list = c.args.nodes.now.items in
    let params = c.args.params.now in
    let previous = c.args.previous_depth in
    let paragraph = c.in-Ok.planned in
    let planned : IsPlanned list params previous paragraph = subst (λ (l : List Node). IsPlanned l params previous paragraph) c.deref.ensures.value c.in-Ok.ensures.ok in
    let levels = planned_levels list params previous paragraph planned c.deref-2.result.now c.deref-3.result.now c.levels_of_lines.result c.deref-2.ensures.value c.deref-3.ensures.value c.levels_of_lines.ensures in
    let most : MAX_DEPTH ≡ 200 = refl in (
      set_of list params previous paragraph,
      planned_setting list params previous paragraph planned,
      omega (arith, levels, c.if-levels_of_lines-gt-MAX_DEPTH.false, most),
      omega (arith, planned_count list params previous paragraph planned, c.if-saturating_add-gt-MAX_ITEMS.true, c.saturating_add.ensures, c.len.ensures, c.args.around.now.ok.0),
    )

pub levels_of_lines-requires : goal.levels_of_lines-requires
levels_of_lines-requires c = λ on. subst IsPlain (c.deref.ensures.value ∙ sym c.deref-2.ensures.value) (c.in-Ok.ensures.plain on)

pub stack_planned-requires-clause-plain : goal.stack_planned-requires-clause-plain
stack_planned-requires-clause-plain c = λ on. subst IsPlain c.deref.ensures.value (c.in-Ok.ensures.plain on)

pub stack_planned-requires-clause-in_order : goal.stack_planned-requires-clause-in_order
stack_planned-requires-clause-in_order c =
    let list = c.args.nodes.now.items in
    let paragraph = c.in-Ok.planned in
    let planned : IsPlanned list c.args.params.now c.args.previous_depth paragraph =
    subst (λ (l : List Node). IsPlanned l c.args.params.now c.args.previous_depth paragraph) c.deref.ensures.value c.in-Ok.ensures.ok in
    subst (AreInOrder (length list + 1)) (sym planned.lines) (broken_in_order list c.args.params.now c.args.previous_depth paragraph.breaks planned.broken)

pub stack_planned-requires-clause-count : goal.stack_planned-requires-clause-count
stack_planned-requires-clause-count c =
    let list = c.args.nodes.now.items in
    let paragraph = c.in-Ok.planned in
    let planned : IsPlanned list c.args.params.now c.args.previous_depth paragraph =
    subst (λ (l : List Node). IsPlanned l c.args.params.now c.args.previous_depth paragraph) c.deref.ensures.value c.in-Ok.ensures.ok in
    let order = subst (AreInOrder (length list + 1)) (sym planned.lines) (broken_in_order list c.args.params.now c.args.previous_depth paragraph.breaks planned.broken) in
    moved_count list paragraph.plan.lines.items paragraph.plan.count order planned.count

pub returns-in-Ok-stack_planned-clause-ok : goal.returns-in-Ok-stack_planned-clause-ok
returns-in-Ok-stack_planned-clause-ok c =
    let list = c.args.nodes.now.items in
    let params = c.args.params.now in
    let previous = c.args.previous_depth in
    let paragraph = c.in-Ok.planned in
    let planned : IsPlanned list params previous paragraph = subst (λ (l : List Node). IsPlanned l params previous paragraph) c.deref.ensures.value c.in-Ok.ensures.ok in
    let order = subst (AreInOrder (length list + 1)) (sym planned.lines) (broken_in_order list params previous paragraph.breaks planned.broken) in
    let levels = planned_levels list params previous paragraph planned c.deref-2.result.now c.deref-3.result.now c.levels_of_lines.result c.deref-2.ensures.value c.deref-3.ensures.value c.levels_of_lines.ensures in
    let most : MAX_DEPTH ≡ 200 = refl in
    let long : MAX_ITEMS ≡ 65536 = refl in
    record {
      set = set_of list params previous paragraph;
      is_set = planned_setting list params previous paragraph planned;
      shallow = omega (arith, levels, c.if-levels_of_lines-gt-MAX_DEPTH.false, most);
      short = omega (arith, planned_count list params previous paragraph planned, c.if-saturating_add-gt-MAX_ITEMS.false, c.saturating_add.ensures, c.len.ensures, c.args.around.now.ok.0, long);
      items = c.in-Ok-stack_planned.ensures.ok
          ∙ ap (λ (xs : List Node). c.args.around.now.items ++ xs)
          (moved_items list params previous paragraph.breaks paragraph.plan.lines.items planned.lines order
          ∙ sym (nodes_of-items_of (vertical_items (with_breaks list params previous paragraph.breaks))));
      depth = refl;
      lines = search rules;
      pass = refl;
      overhang = search rules;
      demerits = search rules;
    }

pub returns-in-Ok-stack_planned-clause-trials : goal.returns-in-Ok-stack_planned-clause-trials
returns-in-Ok-stack_planned-clause-trials c =
    let planned = subst (λ (l : List Node). IsPlanned l c.args.params.now c.args.previous_depth c.in-Ok.planned) c.deref.ensures.value c.in-Ok.ensures.ok in
    planned.trials
