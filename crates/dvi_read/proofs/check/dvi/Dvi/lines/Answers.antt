-- The lines of all that is seen are the listing.
use Rattle.std.proofs.Common.{List, ℕ, refl, subst, sym}
use Rattle.dvi_read.specs.Seen.{seen_of}
use Rattle.dvi_read.specs.ItemsLeft.{AreLinesLeft, HasCheckedPages}
use Rattle.dvi_read.specs.declared.seen_items.SeenItems.{SeenItems}
use Rattle.dvi_read.proofs.SeenLemmas.{pages_seen}
use Rattle.dvi_read.proofs.check.dvi.Dvi.lines.Goals as goal

pub returns-clause-remaining : goal.returns-clause-remaining
returns-clause-remaining c =
    let pages = c.args.self.now.pages in
    subst (λ (text : List ℕ). AreLinesLeft c.new.result text) (pages_seen 1 pages)
    (c.new.ensures.remaining (seen_of pages) c.in_ok-seen_items.ensures.remaining)

pub returns-clause-all : goal.returns-clause-all
returns-clause-all c =
    let pages = c.args.self.now.pages in
    (pages, subst (λ (s : SeenItems). HasCheckedPages s.file.now pages) (sym c.new.ensures.seen_items) c.in_ok-seen_items.ensures.all, refl)
