-- The lines of the fonts, or the line of the refusal.
use Rattle.std.proofs.Common.{◌≡◌, false, inl, inr, map, refl, rules}
use Rattle.dvi_ops.specs.View.{definition, units as units_of}
use Rattle.boxglue_print.specs.FontLines.{fonts_lines}
use Rattle.boxglue_print.proofs.FontLemmas.{refuses_fonts}
use Rattle.boxglue_print.proofs.fonts.fonts_text.Goals as goal

pub returns : goal.returns
returns c =
    let units = units_of c.in-Ok.defined.units in
    let fonts = map definition c.in-Ok.defined.fonts.items in
    let text_is : c.push_lines.new.out.items ≡ fonts_lines units fonts = search rules in
    inl (record { units = units; fonts = fonts; defined = c.in-Ok.ensures.ok; text_is = text_is; accepted_is = refl })

pub returns-in-Err : goal.returns-in-Err
returns-in-Err c =
    inr (refuses_fonts c.args.dvi.now _ false c.in-Err.fault c.in_ok-text-in-Err.ensures.other c.in_ok-text-in-Err.ensures.text refl c.in-Err.ensures.bad)
