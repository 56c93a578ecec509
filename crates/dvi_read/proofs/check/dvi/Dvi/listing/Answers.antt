-- Memory is refused only where there is a page.
use Rattle.std.proofs.Common.{◌∙◌}
use Rattle.dvi_scan.proofs.AfterPostLemmas.{on_any}
use Rattle.dvi_read.proofs.NextLines.{pages_listed}
use Rattle.dvi_read.proofs.check.dvi.Dvi.listing.Goals as goal

pub returns-then-is_err-clause-growth : goal.returns-then-is_err-clause-growth
returns-then-is_err-clause-growth c =
    on_any _ c.push_lines-listed.result (pages_listed c.args.self.now.pages (λ none. c.if-pages-eq0.false (c.pages.ensures ∙ none)))
