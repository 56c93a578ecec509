use Rattle.std.proofs.Common.{◌≡◌, ap, sym, ◌∙◌, subst}
use Rattle.std.proofs.lemmas.Result.{err_from_is_err_and}
use Rattle.std.specs.Prelude.{ℤ, None, false}
use Rattle.page_core.specs.declared.placing.Point.{Point}
use Rattle.page_core.specs.Pages.{page_at}
use Rattle.dvi_write.specs.Limits.{IsWithinLimits, limit_of}
use Rattle.dvi_write.specs.Shippable.{IsRightPage}
use Rattle.dvi_write.proofs.Spaces.{few_text, space_next}
use Rattle.dvi_write.specs.Writing.{Writing, RefusesPage, refusal_of}
use Rattle.dvi_write.proofs.Writings.{may_go, refused_by}
use Rattle.dvi_write.proofs.dvi_writer.DviWriter.prepare.Goals as goal

pub next_page-requires-clause-space : goal.next_page-requires-clause-space
next_page-requires-clause-space g c =
    let page = page_at c.args.counts.now c.point_of-at.result.h c.point_of-at.result.v c.args.box_node.now in
    space_next c.args.fonts.now c.self.inside.progress page c.can_be_defined.ensures c.requires c.told-counts
    (c.in_ok-load.ensures.ok c.args.counts.now c.point_of-at.result.h c.point_of-at.result.v) c.self.invariant.0

pub returns-clause-space : goal.returns-clause-space
returns-clause-space g c =
    let page = page_at c.args.counts.now c.point_of-at.result.h c.point_of-at.result.v c.args.box_node.now in
    subst IsWithinLimits (sym c.in_ok-next.ensures.after)
    (space_next c.args.fonts.now c.self.inside.progress page c.can_be_defined.ensures c.requires c.told-counts
    (c.in_ok-load.ensures.ok c.args.counts.now c.point_of-at.result.h c.point_of-at.result.v) c.self.invariant.0)

pub returns-clause-right : goal.returns-clause-right
returns-clause-right g c =
    let s = c.self.inside.progress in
    let page = page_at c.args.counts.now c.point_of-at.result.h c.point_of-at.result.v c.args.box_node.now in
    let limit = c.in_ok-load.ensures.ok c.args.counts.now c.point_of-at.result.h c.point_of-at.result.v in
    let right : IsRightPage c.args.fonts.now page =
    record { ten = c.told-counts; counts_fit = c.in_ok-next.ensures.counts; small = c.in_ok-next.ensures.fits; text = few_text s page limit; sound = c.requires } in
    subst (λ (at : Point ℤ). IsRightPage c.args.fonts.now (page_at c.args.counts.now at.h at.v c.args.box_node.now)) c.point_of-at.ensures right

pub returns-clause-may : goal.returns-clause-may
returns-clause-may g c =
    let w = c.args.self.now in
    let running : w.over ≡ false = sym (ap (λ (w : Writing). w.over) c.self.view_is) ∙ c.if-self.false in
    let page = page_at c.args.counts.now c.point_of-at.result.h c.point_of-at.result.v c.args.box_node.now in
    let limit = ap (λ (w : Writing). limit_of w.so_far page) (sym c.self.view_is) ∙ c.in_ok-load.ensures.ok c.args.counts.now c.point_of-at.result.h c.point_of-at.result.v in
    subst (λ (at : Point ℤ). refusal_of w (page_at c.args.counts.now at.h at.v c.args.box_node.now) ≡ None) c.point_of-at.ensures (may_go w page running limit c.in_ok-next.ensures.fits)

pub returns-in_err-next-clause-refused : goal.returns-in_err-next-clause-refused
returns-in_err-next-clause-refused g c =
    let w = c.args.self.now in
    let running : w.over ≡ false = sym (ap (λ (w : Writing). w.over) c.self.view_is) ∙ c.if-self.false in
    let page = page_at c.args.counts.now c.point_of-at.result.h c.point_of-at.result.v c.args.box_node.now in
    let limit = ap (λ (w : Writing). limit_of w.so_far page) (sym c.self.view_is) ∙ c.in_ok-load.ensures.ok c.args.counts.now c.point_of-at.result.h c.point_of-at.result.v in
    let fault = c.in_err-next.field-0.0 in
    let passed = err_from_is_err_and c.from_residual-in_err-next.result c.from_residual-in_err-next.ensures.1 in
    rw (passed.1, passed.2)
    (subst (λ (at : Point ℤ). RefusesPage w (page_at c.args.counts.now at.h at.v c.args.box_node.now) fault) c.point_of-at.ensures (refused_by w page fault running limit c.in_err-next.ensures.err))
