use Rattle.break_core.proofs.BestOffers.{overfull_once}
use Rattle.break_core.proofs.offering.is_overfull.Goals as goal

pub returns : goal.returns
returns c = overfull_once c.args.params.now c.args.line.now.sums c.args.line.now.fit c.requires.uncounted c.requires.judged.fit
