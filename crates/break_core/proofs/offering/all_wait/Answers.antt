use Rattle.std.proofs.Common.{◌≡◌, subst, true}
use Rattle.break_lines.specs.Costs.{is_loosest}
use Rattle.break_core.proofs.offering.all_wait.Goals as goal

pub returns-clause-loosest : goal.returns-clause-loosest
returns-clause-loosest c = λ loosest.
    subst (λ x. is_loosest c.args.rules.now.bound x ≡ true) c.requires.judged.fit (c.is_too_loose.ensures.loosest loosest)
