-- A page that is painted is there, and where one is painted the status is none of those that write nothing.
use Rattle.std.proofs.Common.{Err, ap, inr, refl, subst, sym}
use Rattle.boxglue_calls.specs.Fonts.{files_of}
use Rattle.boxglue_print.specs.Outputs.{LacksPage}
use Rattle.raster_core.specs.PaintOptions.{PaintOptionsView}
use Rattle.boxglue_calls.specs.Pages.{IsPaintedInBits, read_status}
use Rattle.boxglue_calls.proofs.PageLaws.{bits_have_page, handed_status, not_silent}
use Rattle.boxglue_calls.proofs.page_bits.paint_bits.Goals as goal

pub returns-in-Ok-clause-found : goal.returns-in-Ok-clause-found
returns-in-Ok-clause-found c =
    let output = c.in-Ok.output in
    let files = files_of c.args.fonts.now in
    let same = c.in-Some.ensures.1 in
    λ lacks named range.
    absurd (bits_have_page files c.args.dvi.now c.in-Some.options output.text.items output.accepted c.in-Ok.ensures.ok
    (subst (λ (options : PaintOptionsView). LacksPage files c.args.dvi.now options.page) (sym same) lacks))

pub returns-in-Ok-clause-done : goal.returns-in-Ok-clause-done
returns-in-Ok-clause-done c =
    let output = c.in-Ok.output in
    let files = files_of c.args.fonts.now in
    inr (inr (inr (inr (record {
      text = output.text.items;
      accepted = output.accepted;
      output = subst (λ (options : PaintOptionsView). IsPaintedInBits files c.args.dvi.now options output.text.items output.accepted) c.in-Some.ensures.1
          c.in-Ok.ensures.ok;
      handed = c.hand_over_output.ensures.handed;
      size_is = c.hand_over_output.ensures.size;
    }))))

pub returns-in-Ok-clause-size : goal.returns-in-Ok-clause-size
returns-in-Ok-clause-size c =
    let accepted = c.in-Ok.output.accepted in
    λ silent. absurd (not_silent c.hand_over_output.result (handed_status _ _ _ accepted (read_status accepted) c.hand_over_output.result refl c.hand_over_output.ensures.handed) silent)

pub returns-in-Err-NoSuchPage-clause-lacking : goal.returns-in-Err-NoSuchPage-clause-lacking
returns-in-Err-NoSuchPage-clause-lacking c =
    let same = c.in-Some.ensures.1 in
    let missing = c.in-Err-NoSuchPage.ensures.missing (ap (λ fault. Err fault) c.in-Err-NoSuchPage.field-0-is) in
    λ five. subst (λ (options : PaintOptionsView). LacksPage (files_of c.args.fonts.now) c.args.dvi.now options.page) same missing
