use Rattle.std.proofs.Common.{◌≡◌, ◌∙◌, sym, arith}
use Rattle.std.specs.Prelude.{pos, ◌<ℤ◌}
use Rattle.std.proofs.lemmas.Int.{ints}
use Rattle.break_core.specs.Private.Active.{wait_limit, most_admitted}
use Rattle.break_core.proofs.Admitted.{loosest_above}
use Rattle.break_core.proofs.offering.is_too_loose.Goals as goal

pub returns-clause-loosest : goal.returns-clause-loosest
returns-clause-loosest c = λ is.
    let rules = c.args.rules.now in
    let limit : rules.loosest ≡ wait_limit rules.waits (most_admitted rules.bound) = cc (rules.limited, rules.admitted) in
    let above : wait_limit rules.waits (most_admitted rules.bound) <ℤ pos c.args.fit.now.badness =
    omega (arith, ints, c.if-from-rules.false, c.from.ensures, limit) in
    loosest_above rules.waits rules.bound c.args.fit.now c.requires.badness above (sym c.is_loose.ensures ∙ is)
