use Rattle.std.proofs.Common.{◌∙◌, sym, ap}
use Rattle.std.specs.Prelude.{not}
use Rattle.page_core.specs.Pages.{page_at}
use Rattle.page_core.proofs.Places.{ends_huge, items_huge}
use Rattle.ship_core.proofs.page_plan.draw_page.Goals as goal

pub returns-then-not-ends_fit-clause-huge : goal.returns-then-not-ends_fit-clause-huge
returns-then-not-ends_fit-clause-huge c counts =
    ends_huge (page_at counts c.args.at.h c.args.at.v c.args.box_node.now) (sym c.ends_fit.ensures ∙ c.if-not-ends_fit.true)

pub returns-then-not-fit-clause-huge : goal.returns-then-not-fit-clause-huge
returns-then-not-fit-clause-huge c counts =
    let b = c.args.box_node.now in
    let page = page_at counts c.args.at.h c.args.at.v b in
    items_huge page _ (sym c.ends_fit.ensures ∙ c.if-not-ends_fit.false)
    c.in_ok-fit.ensures.fits
    ∙ ap not c.if-not-fit.true

pub returns-clause-huge : goal.returns-clause-huge
returns-clause-huge c counts =
    let b = c.args.box_node.now in
    let page = page_at counts c.args.at.h c.args.at.v b in
    items_huge page _ (sym c.ends_fit.ensures ∙ c.if-not-ends_fit.false)
    c.in_ok-fit.ensures.fits
    ∙ ap not c.if-not-fit.false
