-- A file whose pages are walked again: it is the same, so its pages are.
use Rattle.std.proofs.Common.{◌≡◌, [], false, List, ℕ, None, arith, refl, sym, ◌∙◌, subst}
use Rattle.std.specs.Borrow.{Bor}
use Rattle.dvi_ops.specs.File.{MarkedPage}
use Rattle.dvi_read.specs.Listing.{listing}
use Rattle.dvi_read.specs.Seen.{SeenItemView, seen_of}
use Rattle.dvi_read.specs.ItemsLeft.{AreLinesLeft, HasAllLines, HasCheckedPages, AreItemsLeft}
use Rattle.dvi_read.specs.declared.check.checked_file.CheckedFile.{CheckedFile}
use Rattle.dvi_read.specs.declared.listings.lines.Lines.{Lines}
use Rattle.dvi_read.specs.declared.seen_items.SeenItems.{SeenItems}
use Rattle.dvi_read.proofs.SeenLemmas.{pages_seen}

-- The same file has the same pages.
pub same_pages : (a b : SeenItems) (pages : List MarkedPage) → b.file ≡ a.file → HasCheckedPages a.file.now pages → HasCheckedPages b.file.now pages
same_pages a b pages same has = subst (λ (file : Bor CheckedFile). HasCheckedPages file.now pages) (sym same) has

pub same_lines : (old new : Lines) (text : List ℕ) → new.seen_items.file ≡ old.seen_items.file → HasAllLines old text → HasAllLines new text
same_lines old new text same (pages, has, is) = (pages, same_pages old.seen_items new.seen_items pages same has, is)

-- Before the first page nothing was seen.
pub seen_again : (s : SeenItems) (seen : List SeenItemView) (pages : List MarkedPage) → AreItemsLeft s seen → HasCheckedPages s.file.now pages
    → AreItemsLeft (record s { at = s.file.now.from; inside = false }) (seen_of pages)
seen_again s seen pages a has = record { pages = []; marks = []; all = pages; rest = has; ready = a.ready; seen_is = refl }

pub lines_again : (l : Lines) (new : SeenItems) (text : List ℕ) (pages : List MarkedPage) → AreItemsLeft new (seen_of pages) → text ≡ listing pages
    → AreLinesLeft (record l { text = None; before = 0; seen_items = new }) text
lines_again l new text pages remaining is =
    record { seen = seen_of pages; remaining = remaining; text_is = is ∙ sym (pages_seen 1 pages); counted = omega arith }
