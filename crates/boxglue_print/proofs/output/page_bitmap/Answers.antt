-- The line of the refusal, or the page with its units, or no such page.
use Rattle.std.proofs.Common.{◌≡◌, ◌-◌, Some, ℕ, slice_get, false, true, ap, inl, refl, sym, ◌∙◌}
use Rattle.dvi_ops.specs.View.{units as units_of}
use Rattle.dvi_scan.specs.View.{marked_page}
use Rattle.raster_core.specs.PixelGrids.{white}
use Rattle.raster_core.specs.Pixels.{scale_of}
use Rattle.raster_core.specs.PlainText.{pbm}
use Rattle.boxglue_print.proofs.PrintLemmas.{has_page, paints, refuses, rules_painted, shows}
use Rattle.boxglue_print.proofs.output.page_bitmap.Goals as goal

pub returns-in-Err-clause-ok : goal.returns-in-Err-clause-ok
returns-in-Err-clause-ok c =
    refuses c.args.files.now c.args.dvi.now _ c.in-Err.fault false c.in_ok-refusal-in-Err.ensures.other c.in-Err.ensures.bad c.in-Err.ensures.refused
    c.in_ok-refusal-in-Err.ensures.text refl

pub returns-in-Err-clause-pixels : goal.returns-in-Err-clause-pixels
returns-in-Err-clause-pixels c = returns-in-Err-clause-ok c

pub returns-in-Err-clause-found : goal.returns-in-Err-clause-found
returns-in-Err-clause-found c = λ lacks. absurd (c.in-Err.ensures.refused c.in_ok-refusal-in-Err.ensures.other lacks.pages lacks.file)

pub returns-clause-pixels : goal.returns-clause-pixels
returns-clause-pixels c =
    let pages = c.in-Ok.opened.pages in
    let page = marked_page c.in_ok-page.page in
    let units = units_of c.units.result in
    let options = c.args.options in
    let (shown, there, rules) = c.in_ok-page.ensures in
    let here : slice_get pages (options.page - 1) ≡ Some shown = sym (ap (λ (n : ℕ). slice_get pages (n - 1)) c.page.ensures.value) ∙ there in
    let painted = rules_painted (scale_of units options.dpi) page shown c.in_ok-bitmap.bitmap (white options.width options.height) rules
    c.in_ok-bitmap.ensures in
    shows c.args.files.now c.args.dvi.now options pages units shown c.in_ok-bitmap.bitmap c.in-Ok.ensures.ok
    (λ f. c.units.ensures.value ∙ c.in-Ok.ensures.units f) here painted

pub returns-clause-ok : goal.returns-clause-ok
returns-clause-ok c = paints c.args.files.now c.args.dvi.now c.args.options c.in_ok-bitmap.bitmap (returns-clause-pixels c)

pub returns-clause-found : goal.returns-clause-found
returns-clause-found c =
    λ lacks. absurd (has_page c.args.files.now c.args.dvi.now c.args.options (pbm c.in_ok-bitmap.bitmap) true (inl (returns-clause-ok c)) lacks)
