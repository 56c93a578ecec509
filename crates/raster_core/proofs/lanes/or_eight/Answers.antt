use Rattle.raster_core.proofs.OredWords.{Ors-eight}
use Rattle.raster_core.proofs.lanes.or_eight.Goals as goal

pub returns : goal.returns
returns c = Ors-eight c.args.words.now c.args.at c.args.mask.now c.args.from c.requires.words c.requires.mask
