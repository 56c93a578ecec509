-- The page has the rules of one of those that the file shows.
use Rattle.std.proofs.Common.{◌≡◌, IfOk, Some, ap, slice_get, subst}
use Rattle.dvi_ops.specs.File.{MarkedPage}
use Rattle.dvi_scan.specs.View.{marked_page}
use Rattle.dvi_read.specs.Opened.{OpenedFile}
use Rattle.dvi_read.specs.PageMarks.{rules_alone}
use Rattle.dvi_read.proofs.OnePageLemmas.{page_of_rules}
use Rattle.dvi_read.proofs.ShownLemmas.{has_place}
use Rattle.dvi_read.proofs.check.dvi.Dvi.page_rules.Goals as goal

pub page-requires-clause-below : goal.page-requires-clause-below
page-requires-clause-below c =
    has_place c.self.inside.file c.self.inside.shown.pages _ c.args.index c.self.invariant.1 (ap (λ (o : OpenedFile). o.pages) c.self.view_is) c.requires

pub returns : goal.returns
returns c =
    let here = page_of_rules c.self.inside.file c.self.inside.shown.pages c.args.index c.page.result c.self.invariant.1 c.page.ensures in
    subst (λ (o : OpenedFile). IfOk c.page.result
    (λ page. (shown : MarkedPage) × (slice_get o.pages c.args.index ≡ Some shown) × (marked_page page ≡ rules_alone shown))) c.self.view_is here
