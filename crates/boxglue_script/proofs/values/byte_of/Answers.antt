-- The number is in the range.
use Rattle.std.proofs.Common.{arith}
use Rattle.std.proofs.lemmas.Int.{to_z-of_z}
use Rattle.boxglue_script.specs.Grammar.{slot_count}
use Rattle.boxglue_script.proofs.Numbers.{small_tried}
use Rattle.boxglue_script.proofs.values.byte_of.Goals as goal

pub returns-in-Some : goal.returns-in-Some
returns-in-Some c = small_tried slot_count c.args.field.now c.in-Some.number c.byte_numbered.result c.in-Some.ensures.integer_read (grind (arith, to_z-of_z, c.byte_numbered.ensures))
