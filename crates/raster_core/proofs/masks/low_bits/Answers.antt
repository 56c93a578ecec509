use Rattle.raster_core.proofs.MaskBits.{ones_are_set, low_bits_are_set}
use Rattle.raster_core.proofs.masks.low_bits.Goals as goal

pub returns-then-count-ge64 : goal.returns-then-count-ge64
returns-then-count-ge64 c = λ i h. ones_are_set i c.args.count c.if-count-ge64.true h

pub returns-else-count-ge64 : goal.returns-else-count-ge64
returns-else-count-ge64 c = λ i h. low_bits_are_set i c.args.count c.if-count-ge64.false
