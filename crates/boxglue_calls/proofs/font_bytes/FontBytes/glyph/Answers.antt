-- The sizes of a character that is there, and its italic correction.
use Rattle.std.proofs.Common.{refl, sym, ◌∙◌}
use Rattle.boxglue_calls.proofs.MetricLaws.{has_character, no_character, row_of_character, same_dimension, same_measure}
use Rattle.boxglue_calls.proofs.font_bytes.FontBytes.glyph.Goals as goal

pub returns-in_default : goal.returns-in_default
returns-in_default c =
    let font = c.args.self.now in
    c.no_glyph.ensures ∙ no_character font.bytes.now font.font.now c.args.code font.font.now.size font.sized (sym c.glyph.ensures ∙ c.in_default.is)

pub italic-requires : goal.italic-requires
italic-requires c =
    let font = c.args.self.now in
    has_character font.bytes.now font.font.now c.args.code c.in-Some.sizes font.sized (sym c.in-Some.ensures)

pub returns : goal.returns
returns c =
    let font = c.args.self.now in
    row_of_character font.bytes.now font.font.now c.args.code c.in-Some.sizes _ _ _ c.italic.result c.word_measure.result font.sized (sym c.in-Some.ensures)
    c.italic.ensures.value
    (same_dimension c.get.result _ c.get.ensures.fits c.get.ensures.value)
    (same_dimension c.get-2.result _ c.get-2.ensures.fits c.get-2.ensures.value)
    (same_dimension c.get-3.result _ c.get-3.ensures.fits c.get-3.ensures.value)
    (c.word_measure.ensures ∙ same_measure c.size.result _ c.italic.result _ c.size.ensures c.italic.ensures.fits refl)
