-- The listing is that of the pages.
use Rattle.dvi_read.specs.Listing.{listing}
use Rattle.boxglue_calls.proofs.listings.list_opened.Goals as goal

pub hand_over_listing-requires-clause-lines : goal.hand_over_listing-requires-clause-lines
hand_over_listing-requires-clause-lines c = (listing c.args.dvi.now.pages, c.in_ok-lines.ensures.remaining, c.in_ok-lines.ensures.all)

pub returns-clause-handed : goal.returns-clause-handed
returns-clause-handed c = c.hand_over_listing.ensures.handed (listing c.args.dvi.now.pages) c.in_ok-lines.ensures.remaining c.in_ok-lines.ensures.all
