use Rattle.std.proofs.Common.{◌≡◌, ◌∙◌, refl, rules, to_z, of_z}
use Rattle.std.specs.Int.{w32}
use Rattle.std.proofs.lemmas.Int.{to_z-of_z}
use Rattle.box_items.proofs.row_building.write_penalty.Goals as goal

pub returns : goal.returns
returns c exact is =
    let row = c.clear.ensures exact is in
    let n : to_z w32 (of_z w32 c.args.number) ≡ c.args.number = to_z-of_z w32 c.args.number (search rules) ∙ refl in
    rw (row, n) refl
