use Rattle.std.proofs.Common.{arith}
use Rattle.std.proofs.Math.ListN.{drop_of_length-le}
use Rattle.dvi_read.proofs.listings.part.ListingPart.clear.Goals as goal

pub returns : goal.returns
returns c = drop_of_length-le c.self.inside.bytes {i = 256} (omega (arith, c.self.ranges))
