use Rattle.std.proofs.Common.{◌≡◌, ◌∙◌, refl, rules, to_z, of_z}
use Rattle.std.specs.Int.{w32}
use Rattle.std.proofs.lemmas.Int.{to_z-of_z}
use Rattle.box_items.proofs.Wrapped.{passed_on}
use Rattle.box_items.proofs.row_building.write_glue.Goals as goal

pub returns : goal.returns
returns c exact distance is far =
    let row = c.clear.ensures exact is in
    let width = c.wide_of-set_width.ensures distance (passed_on _ distance far) in
    let w : to_z w32 (of_z w32 c.get-row.result) ≡ c.args.glue.now.width = to_z-of_z w32 c.get-row.result (search rules) ∙ c.get-row.ensures.value in
    let s : to_z w32 (of_z w32 c.get-row-2.result) ≡ c.args.glue.now.stretch = to_z-of_z w32 c.get-row-2.result (search rules) ∙ c.get-row-2.ensures.value in
    let k : to_z w32 (of_z w32 c.get-row-3.result) ≡ c.args.glue.now.shrink = to_z-of_z w32 c.get-row-3.result (search rules) ∙ c.get-row-3.ensures.value in
    let first = c.order_number-row.ensures in
    let second = c.order_number-row-2.ensures in
    rw (row, width, w, s, k, first, second) refl
