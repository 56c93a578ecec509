use Rattle.std.proofs.Common.{arith}
use Rattle.std.proofs.lemmas.Int.{ints}
use Rattle.box_items.proofs.Placed.{under}
use Rattle.box_items.proofs.writing.list_place.Goals as goal

pub returns-in-Vertical : goal.returns-in-Vertical
returns-in-Vertical c exact is =
    under c.args.box_node.now exact _ c.at_offset.result c.deeper-in-Vertical.result c.in-Vertical.is (c.at_offset.ensures exact is) c.deeper-in-Vertical.ensures
    (omega (arith, ints, c.get.ensures.value, c.get.ensures.fits.low, c.get.ensures.fits.high, c.from.ensures))
