use Rattle.std.proofs.Common.{◌≡◌, ◌∙◌, refl, rules, ap, to_z, of_z}
use Rattle.std.specs.Int.{w32}
use Rattle.std.proofs.lemmas.Int.{to_z-of_z}
use Rattle.page_core.specs.Marks.{rule_wide}
use Rattle.box_items.specs.Rows.{empty_row, rule_depth, rule_height}
use Rattle.box_items.specs.declared.row.ItemKind.TheVariants as kinds
use Rattle.box_items.proofs.Placed.{corner}
use Rattle.box_items.proofs.Wrapped.{widened}
use Rattle.box_items.proofs.row_building.write_rule.Goals as goal

pub returns : goal.returns
returns c exact is =
    let b = c.args.box_node.now in
    let r = c.args.rule.now in
    let moved = c.at_offset-corner.ensures exact is in
    let below = widened c.rule_below-below.result c.from.result (search rules) c.from.ensures ∙ c.rule_below-below.ensures in
    let row = c.clear.ensures _ moved ∙ ap (empty_row kinds.Rule) (corner exact _ _ below) in
    let w : to_z w32 (of_z w32 c.get-row.result) ≡ rule_wide b.kind b r = to_z-of_z w32 c.get-row.result (search rules) ∙ (c.get-row.ensures.value ∙ c.rule_width.ensures) in
    let h : to_z w32 (of_z w32 c.get-row-2.result) ≡ rule_height b.kind b r = to_z-of_z w32 c.get-row-2.result (search rules) ∙ (c.get-row-2.ensures.value ∙ c.rule_height.ensures) in
    let d : to_z w32 (of_z w32 c.get-row-3.result) ≡ rule_depth b.kind b r = to_z-of_z w32 c.get-row-3.result (search rules) ∙ (c.get-row-3.ensures.value ∙ c.rule_depth.ensures) in
    let one = c.if_running-width.ensures.value in
    let two = c.if_running-height.ensures.value in
    let four = c.if_running-depth.ensures.value in
    rw (row, w, h, d, one, two, four) refl
