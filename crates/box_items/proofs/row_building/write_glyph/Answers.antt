use Rattle.std.proofs.Common.{◌≡◌, ◌∙◌, refl, rules, to_z, of_z}
use Rattle.std.specs.Int.{w32}
use Rattle.std.proofs.lemmas.Int.{to_z-of_z}
use Rattle.box_items.proofs.Wrapped.{passed_on, wide_zero}
use Rattle.box_items.proofs.row_building.write_glyph.Goals as goal

pub returns : goal.returns
returns c exact is =
    let level = is.level in
    let right = c.wide_of-right.ensures exact.h (passed_on _ exact.h is.h) in
    let down = c.wide_of-down.ensures exact.v (passed_on _ exact.v is.v) in
    let number = c.number-number.ensures in
    let zero = wide_zero in
    let w : to_z w32 (of_z w32 c.get.result) ≡ c.args.glyph.now.width = to_z-of_z w32 c.get.result (search rules) ∙ c.get.ensures.value in
    let h : to_z w32 (of_z w32 c.get-2.result) ≡ c.args.glyph.now.height = to_z-of_z w32 c.get-2.result (search rules) ∙ c.get-2.ensures.value in
    let d : to_z w32 (of_z w32 c.get-3.result) ≡ c.args.glyph.now.depth = to_z-of_z w32 c.get-3.result (search rules) ∙ c.get-3.ensures.value in
    let slot = c.from.ensures in
    let code = c.from-2.ensures in
    rw (number, level, right, down, zero, w, h, d, slot, code) refl
