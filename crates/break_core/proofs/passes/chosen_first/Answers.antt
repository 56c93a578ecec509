use Rattle.std.proofs.Common.{arith}
use Rattle.std.proofs.lemmas.Int.{ints}
use Rattle.break_core.proofs.Admitting.{negative_admits_none}
use Rattle.break_core.proofs.passes.chosen_first.Goals as goal

pub returns-then-get-lt0-clause-found : goal.returns-then-get-lt0-clause-found
returns-then-get-lt0-clause-found g c =
    negative_admits_none (g.M.Meter.facts c.args.meter.now) c.args.params.now c.args.params.now.pretolerance (omega (arith, ints, c.get.ensures.value))
    (g.met.M.Meter.has_places c.args.meter.now)
