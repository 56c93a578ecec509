use Rattle.std.proofs.Common.{◌≡◌, length, rules, arith}
use Rattle.std.proofs.lemmas.Option.{slice_get-get_or}
use Rattle.break_core.proofs.offering.best_at.Goals as goal

pub returns : goal.returns
returns c =
    let long : length c.args.live.now.best ≡ 4 = search rules in
    slice_get-get_or c.args.live.now.best c.args.slot _ (omega (arith, c.requires, long))
