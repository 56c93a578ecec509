-- The count is in the range.
use Rattle.std.proofs.Common.{sym, ◌∙◌, FitsSigned, rules}
use Rattle.std.specs.Int.{w64}
use Rattle.std.proofs.lemmas.Int.{to_z-of_z}
use Rattle.boxglue_script.proofs.CountNumbers.{count_names}
use Rattle.boxglue_script.proofs.values.count_of.Goals as goal

pub returns-in-Some : goal.returns-in-Some
returns-in-Some c =
    let fits : FitsSigned w64 c.in-Some.number = search rules in
    (simp to_z-of_z at c.count_value.ensures) ∙ sym (count_names c.args.field.now c.in-Some.number c.in-Some.ensures.integer_read)
