-- The number is in the range.
use Rattle.std.proofs.Common.{FitsSigned, rules}
use Rattle.std.specs.Int.{w64}
use Rattle.std.proofs.lemmas.Int.{to_z-of_z}
use Rattle.boxglue_script.proofs.Numbers.{penalty_tried}
use Rattle.boxglue_script.proofs.values.penalty_of.Goals as goal

pub returns-in-Some : goal.returns-in-Some
returns-in-Some c =
    let fits : FitsSigned w64 c.in-Some.number = search rules in
    penalty_tried c.args.field.now c.in-Some.number c.try_new.result c.in-Some.ensures.integer_read (simp to_z-of_z at c.try_new.ensures)
