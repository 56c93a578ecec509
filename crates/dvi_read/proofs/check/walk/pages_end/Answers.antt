use Rattle.std.proofs.Common.{rules, ◌≡◌, ◌≢◌, [], true}
use Rattle.std.specs.Prelude.{◌⊎◌}
use Rattle.dvi_scan.specs.declared.executing.PassState.TheVariants as states
use Rattle.dvi_read.proofs.WalkLemmas.{left_over}
use Rattle.dvi_read.proofs.check.walk.pages_end.Goals as goal

pub returns-then-walk-clause-bad : goal.returns-then-walk-clause-bad
returns-then-walk-clause-bad c =
    let closed : c.args.walk.now.pass_state ≡ states.Between = search rules in
    let some : (c.args.walk.now.missed ≡ true) ⊎ (c.args.walk.now.left.now ≢ []) = search rules in
    left_over c.args.walk.now c.args.post closed some
