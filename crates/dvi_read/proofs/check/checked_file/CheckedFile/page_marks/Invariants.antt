-- What is still to come makes the rest of the page, after the marks that were made.
use Rattle.std.proofs.Common.{◌≡◌, ◌-◌, [], List, map}
use Rattle.std.specs.Prelude.{filter}
use Rattle.scaled_core.specs.Mark.{Mark}
use Rattle.dvi_ops.specs.File.{MarkedPage}
use Rattle.dvi_scan.specs.View.{mark_of}
use Rattle.dvi_read.specs.ItemsLeft.{IsReady}
use Rattle.dvi_read.specs.Private.OnePage.{IsOpenAt, is_kept}
use Rattle.dvi_read.specs.ReadFonts.{with_current}
use Rattle.dvi_read.proofs.check.checked_file.CheckedFile.page_marks.Given as goal

abbrev pub invariant-loop-at : goal.invariant-loop-at
invariant-loop-at l = record {
  ready : IsReady l.self.most (with_current l.self.fonts l.current) l.page;
  counts : l.page.counts ≡ l.initial.page.counts;
  same : (before : List MarkedPage) (pages : List MarkedPage) → IsOpenAt l.self l.from before [] l.initial.page pages
      → (seen : List Mark) × IsOpenAt l.self l.at before seen l.page pages × (map mark_of l.marks.items ≡ filter (is_kept l.kept) seen);
}

abbrev pub decreases-loop-at : goal.decreases-loop-at
decreases-loop-at l = l.self.post - l.at
