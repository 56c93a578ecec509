use Rattle.std.proofs.Common.{◌≡◌, ◌∙◌, refl, rules, to_z, of_z}
use Rattle.std.specs.Int.{w32, w64}
use Rattle.std.proofs.lemmas.Int.{to_z-of_z}
use Rattle.box_items.specs.Rows.{setting_ratio}
use Rattle.box_items.proofs.row_building.write_box.Goals as goal

pub returns : goal.returns
returns c exact is =
    let row = c.clear.ensures exact is in
    let kind = c.box_kind.ensures in
    let w : to_z w32 (of_z w32 c.get-row.result) ≡ c.args.box_node.now.width = to_z-of_z w32 c.get-row.result (search rules) ∙ c.get-row.ensures.value in
    let h : to_z w32 (of_z w32 c.get-row-2.result) ≡ c.args.box_node.now.height = to_z-of_z w32 c.get-row-2.result (search rules) ∙ c.get-row-2.ensures.value in
    let d : to_z w32 (of_z w32 c.get-row-3.result) ≡ c.args.box_node.now.depth = to_z-of_z w32 c.get-row-3.result (search rules) ∙ c.get-row-3.ensures.value in
    let m : to_z w32 (of_z w32 c.get-row-4.result) ≡ c.args.shift = to_z-of_z w32 c.get-row-4.result (search rules) ∙ c.get-row-4.ensures.value in
    let sign = c.setting_numbers-setting.ensures.sign in
    let order = c.setting_numbers-setting.ensures.order in
    let num : to_z w64 (of_z w64 c.setting_numbers-setting.result.num) ≡ (setting_ratio c.args.box_node.now.setting).num = to_z-of_z w64 c.setting_numbers-setting.result.num (search rules) ∙ c.setting_numbers-setting.ensures.num in
    let den : to_z w64 (of_z w64 c.setting_numbers-setting.result.den) ≡ (setting_ratio c.args.box_node.now.setting).den = to_z-of_z w64 c.setting_numbers-setting.result.den (search rules) ∙ c.setting_numbers-setting.ensures.den in
    rw (row, kind, w, h, d, m, sign, order, num, den) refl
