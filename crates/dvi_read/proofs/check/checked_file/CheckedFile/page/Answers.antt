-- The page has the counts with which it began and the marks of the instructions after them.
use Rattle.std.proofs.Common.{◌≡◌, None, Some, map, subst, sym, ℕ, ◌∙◌}
use Rattle.dvi_scan.specs.Pass.{PassStateView}
use Rattle.dvi_scan.specs.View.{dvi_state, mark_of}
use Rattle.dvi_read.specs.Private.OnePage.{HasRestAt, ShowsKept}
use Rattle.dvi_read.proofs.OnePageLemmas.{page_of, page_opened}
use Rattle.dvi_read.proofs.check.checked_file.CheckedFile.page.Goals as goal

pub page_marks-requires : goal.page_marks-requires
page_marks-requires c =
    let (pages, shows) = c.requires.shown in
    let begin = c.page_start-begin.result in
    let space = c.in_ok-page.page in
    let made = c.in_ok-page.ensures in
    let (before, size, rest) = c.page_start-begin.ensures pages shows in
    let opened = page_opened before begin.counts space.stack.items (dvi_state space.state) made.places made.state in
    record {
      ready = record {
        none = made.none;
        space = record { mark = made.space.mark; places = made.space.places };
        current =
            λ f e. (let none : None ≡ Some f = sym made.font ∙ e in absurd cc);
      };
      remaining = (before, pages, subst (λ (p : PassStateView). HasRestAt c.args.self.now begin.at p pages) opened rest);
    }

pub returns : goal.returns
returns c = λ pages shows.
    let begin = c.page_start-begin.result in
    let space = c.in_ok-page.page in
    let made = c.in_ok-page.ensures in
    let (before, size, rest) = c.page_start-begin.ensures pages shows in
    let opened = page_opened before begin.counts space.stack.items (dvi_state space.state) made.places made.state in
    let drawn = c.in_ok-marks.ensures before pages (subst (λ (p : PassStateView). HasRestAt c.args.self.now begin.at p pages) opened rest) in
    subst (λ (n : ℕ). ShowsKept c.args.kept (page_of begin.counts (map mark_of c.in_ok-marks.marks.items)) n pages) size drawn
