use Rattle.std.proofs.Common.{◌≡◌, ◌∙◌, vec_len, sym, rules}
use Rattle.vert_core.proofs.PlannedOrder.{no_items, no_depth, no_large_line}
use Rattle.vert_core.proofs.stacking.lines.Goals as goal

pub returns-then-is_empty-clause-ok : goal.returns-then-is_empty-clause-ok
returns-then-is_empty-clause-ok c =
    let none : vec_len c.args.breaks.now.lines ≡ 0 = search rules in
    search (rules, no_items c.args.nodes.now c.args.breaks.now.lines.items c.args.params.now c.args.previous_depth (sym c.args.breaks.now.lines.ok.0 ∙ none))

pub returns-then-is_empty-clause-depth : goal.returns-then-is_empty-clause-depth
returns-then-is_empty-clause-depth c =
    let none : vec_len c.args.breaks.now.lines ≡ 0 = search rules in
    sym (no_depth c.args.nodes.now c.args.breaks.now.lines.items c.args.params.now c.args.previous_depth (sym c.args.breaks.now.lines.ok.0 ∙ none))

pub returns-then-is_empty-clause-fits : goal.returns-then-is_empty-clause-fits
returns-then-is_empty-clause-fits c =
    let none : vec_len c.args.breaks.now.lines ≡ 0 = search rules in
    no_large_line c.args.nodes.now c.args.breaks.now.lines.items c.args.params.now c.args.previous_depth (sym c.args.breaks.now.lines.ok.0 ∙ none)
