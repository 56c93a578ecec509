-- The codes are bytes, as in each walk over a checked file.
use Rattle.dvi_read.proofs.seen_items.SeenItems.width.Goals as goal

pub width_by-requires : goal.width_by-requires
width_by-requires c = let (seen, remaining) = c.requires in remaining.rest.codes
