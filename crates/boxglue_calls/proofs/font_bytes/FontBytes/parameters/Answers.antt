-- Each number of the font.
use Rattle.std.proofs.Common.{FitsSigned, w32, ap, rules, ◌∙◌}
use Rattle.tfm_core.specs.declared.font.Space.{Space}
use Rattle.boxglue_calls.proofs.MetricLaws.{parameters_are, same_check, same_dimension, same_measure, same_size, same_word}
use Rattle.boxglue_calls.proofs.font_bytes.FontBytes.parameters.Goals as goal

pub returns : goal.returns
returns c =
    let font = c.args.self.now in
    let fits : FitsSigned w32 c.check_sum.result = search rules in
    parameters_are font.bytes.now font.font.now _ _ _ _ _ _ _ _ _ _ font.sized
    (same_size c.get.result _ c.get.ensures.size (c.get.ensures.value ∙ c.size-size.ensures))
    (same_size c.get-2.result _ c.get-2.ensures.size (c.get-2.ensures.value ∙ c.design_size.ensures))
    (c.cast_unsigned.ensures ∙ same_check c.check_sum.result _ fits c.check_sum.ensures)
    (same_word c.parameter.result _ c.parameter.ensures.fits c.parameter.ensures.value)
    (same_dimension c.get-3.result _ c.get-3.ensures.fits (c.get-3.ensures.value ∙ ap (λ (s : Space). s.width) c.space-space.ensures))
    (same_dimension c.get-4.result _ c.get-4.ensures.fits (c.get-4.ensures.value ∙ ap (λ (s : Space). s.stretch) c.space-space.ensures))
    (same_dimension c.get-5.result _ c.get-5.ensures.fits (c.get-5.ensures.value ∙ ap (λ (s : Space). s.shrink) c.space-space.ensures))
    (c.word_measure.ensures ∙ same_measure c.size-size.result _ c.parameter-2.result _ c.size-size.ensures c.parameter-2.ensures.fits c.parameter-2.ensures.value)
    (c.word_measure-2.ensures ∙ same_measure c.size-size.result _ c.parameter-3.result _ c.size-size.ensures c.parameter-3.ensures.fits c.parameter-3.ensures.value)
    (c.word_measure-3.ensures ∙ same_measure c.size-size.result _ c.parameter-4.result _ c.size-size.ensures c.parameter-4.ensures.fits c.parameter-4.ensures.value)
