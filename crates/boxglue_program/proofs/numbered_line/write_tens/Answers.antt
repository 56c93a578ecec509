-- The digits before the last one are at most nineteen.
use Rattle.std.proofs.Common.{arith, rules}
use Rattle.std.proofs.lemmas.Fmt.{length-decimal-le}
use Rattle.boxglue_program.proofs.numbered_line.write_tens.Goals as goal

pub write_digits-requires : goal.write_digits-requires
write_digits-requires c =
    let few = length-decimal-le 19 c.args.tens (omega arith) (omega (arith, c.requires)) (omega (arith, c.requires)) in
    (search (rules, few), search rules)
