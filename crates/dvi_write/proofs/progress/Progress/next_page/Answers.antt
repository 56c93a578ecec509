use Rattle.std.proofs.Common.{refl, length, ap, ap₂, ◌∙◌, arith}
use Rattle.std.proofs.lemmas.Result.{err_from_is_err_and}
use Rattle.dvi_ops.specs.Runs.{instructions_of}
use Rattle.dvi_write.specs.Admitted.{shipped_page}
use Rattle.dvi_write.specs.FilePages.{fresh_slots}
use Rattle.dvi_write.specs.SoFar.{ProgressView}
use Rattle.dvi_write.proofs.Spaces.{next_small, next_few, next_short}
use Rattle.dvi_write.proofs.WrittenBodies.{spelled_written}
use Rattle.dvi_write.proofs.progress.Progress.next_page.Goals as goal

pub lay_out-requires : goal.lay_out-requires
lay_out-requires c =
    let page = shipped_page c.args.page.now in
    rw (c.in_ok-body.ensures.ok) (spelled_written page (next_short c.args.fonts.now c.args.self.now page c.requires.space))

pub keep_size-requires-clause-slots_bounded : goal.keep_size-requires-clause-slots_bounded
keep_size-requires-clause-slots_bounded c =
    let page = shipped_page c.args.page.now in
    let few = next_few c.args.fonts.now c.args.self.now page c.deref-2.result.now c.requires.space
    (c.deref-2.ensures.value ∙ (c.in_ok-fresh.ensures.slots ∙ ap₂ (fresh_slots c.args.fonts.now) (c.as_slice.ensures ∙ ap (λ (s : ProgressView). s.defined) c.self.view_is) c.in_ok-body.ensures.ok)) in
    omega (arith, few, ap (λ (s : ProgressView). length s.defined) c.copy-after.ensures)

pub keep_size-requires-clause-space : goal.keep_size-requires-clause-space
keep_size-requires-clause-space c =
    let page = shipped_page c.args.page.now in
    let fresh = c.deref.ensures.value ∙ (c.in_ok-fresh.ensures.slots ∙ ap₂ (fresh_slots c.args.fonts.now) (c.as_slice.ensures ∙ ap (λ (s : ProgressView). s.defined) c.self.view_is) c.in_ok-body.ensures.ok) in
    omega (
      arith,
      next_small c.args.fonts.now c.args.self.now page c.in_ok-laid_out.laid_out.size c.deref.result.now (instructions_of c.in_ok-body.body)
          c.requires.space fresh c.in_ok-body.ensures.ok c.in_ok-laid_out.ensures.size,
      ap (λ (s : ProgressView). s.layout.size) c.copy-after.ensures,
    )

pub returns-in_err-fresh-clause-err : goal.returns-in_err-fresh-clause-err
returns-in_err-fresh-clause-err c =
    let p = err_from_is_err_and c.from_residual-in_err-fresh.result c.from_residual-in_err-fresh.ensures.1 in
    rw (p.1, p.2, c.in_ok-body.ensures.fits) refl

pub returns-in_err-laid_out-clause-err : goal.returns-in_err-laid_out-clause-err
returns-in_err-laid_out-clause-err c =
    let p = err_from_is_err_and c.from_residual-in_err-laid_out.result c.from_residual-in_err-laid_out.ensures.1 in
    rw (p.1, p.2, c.in_ok-body.ensures.fits) refl
