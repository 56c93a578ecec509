-- A page that is painted is there, and where one is painted the status is none of those that write nothing.
use Rattle.std.proofs.Common.{Err, ap, subst, sym}
use Rattle.boxglue_calls.specs.Fonts.{files_of}
use Rattle.boxglue_print.proofs.PrintLemmas.{has_page}
use Rattle.boxglue_print.specs.Outputs.{LacksPage}
use Rattle.raster_core.specs.PaintOptions.{PaintOptionsView}
use Rattle.boxglue_calls.proofs.PageLaws.{handed_status, not_silent}
use Rattle.boxglue_calls.proofs.pages.paint.Goals as goal

pub returns-in-Ok-clause-found : goal.returns-in-Ok-clause-found
returns-in-Ok-clause-found c =
    let output = c.in-Ok.output in
    let files = files_of c.args.fonts.now in
    let same = c.in-Some.ensures.1 in
    λ lacks named range.
    absurd (has_page files c.args.dvi.now c.in-Some.options output.text.items output.accepted c.in-Ok.ensures.ok
    (subst (λ (options : PaintOptionsView). LacksPage files c.args.dvi.now options.page) (sym same) lacks))

pub returns-in-Ok-clause-size : goal.returns-in-Ok-clause-size
returns-in-Ok-clause-size c =
    λ silent. absurd (not_silent c.hand_over.result (handed_status _ _ _ c.in-Ok.output.accepted _ c.hand_over.result c.file_status.ensures c.hand_over.ensures) silent)

pub returns-in-Err-NoSuchPage-clause-lacking : goal.returns-in-Err-NoSuchPage-clause-lacking
returns-in-Err-NoSuchPage-clause-lacking c =
    let same = c.in-Some.ensures.1 in
    let missing = c.in-Err-NoSuchPage.ensures.missing (ap (λ fault. Err fault) c.in-Err-NoSuchPage.field-0-is) in
    λ five. subst (λ (options : PaintOptionsView). LacksPage (files_of c.args.fonts.now) c.args.dvi.now options.page) same missing
