-- The page is one of those that the file shows.
use Rattle.std.proofs.Common.{◌≡◌, IfOk, Some, ap, slice_get, subst}
use Rattle.dvi_scan.specs.View.{marked_page}
use Rattle.dvi_read.specs.Opened.{OpenedFile}
use Rattle.dvi_read.proofs.OnePageLemmas.{whole_page}
use Rattle.dvi_read.proofs.ShownLemmas.{has_place}
use Rattle.dvi_read.proofs.check.dvi.Dvi.page.Goals as goal

pub page-requires-clause-below : goal.page-requires-clause-below
page-requires-clause-below c =
    has_place c.self.inside.file c.self.inside.shown.pages _ c.args.index c.self.invariant.1 (ap (λ (o : OpenedFile). o.pages) c.self.view_is) c.requires

pub returns : goal.returns
returns c =
    let here = whole_page c.self.inside.file c.self.inside.shown.pages c.args.index c.page.result c.self.invariant.1 c.page.ensures in
    subst (λ (o : OpenedFile). IfOk c.page.result (λ page. slice_get o.pages c.args.index ≡ Some (marked_page page))) c.self.view_is here
