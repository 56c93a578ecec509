-- The size that is asked for.
use Rattle.std.proofs.Common.{FitsSigned, w64, refl, rules, ◌∙◌}
use Rattle.boxglue_calls.specs.Metrics.{metric_outputs}
use Rattle.boxglue_calls.proofs.MeasuredFonts.{reads_at_size, reads_design_size}
use Rattle.boxglue_calls.proofs.MetricLaws.{nonzero_is, same_asked, same_word, zero_is}
use Rattle.boxglue_calls.proofs.font_metrics.metrics.Goals as goal

pub returns-then-size-eq0-clause-size : goal.returns-then-size-eq0-clause-size
returns-then-size-eq0-clause-size c =
    let new = c.measure_font.new in
    (reads_design_size c.args.tfm.now c.args.size
    (metric_outputs c.args.glyphs.now c.args.parameters.now c.args.steps.now c.args.count.now c.args.fault.now)
    (metric_outputs new.glyphs new.parameters new.steps new.count new.fault) c.measure_font.result (zero_is c.args.size c.ranges.size c.if-size-eq0.true) c.measure_font.ensures).0

pub returns-then-size-eq0-clause-done : goal.returns-then-size-eq0-clause-done
returns-then-size-eq0-clause-done c =
    let new = c.measure_font.new in
    (reads_design_size c.args.tfm.now c.args.size
    (metric_outputs c.args.glyphs.now c.args.parameters.now c.args.steps.now c.args.count.now c.args.fault.now)
    (metric_outputs new.glyphs new.parameters new.steps new.count new.fault) c.measure_font.result (zero_is c.args.size c.ranges.size c.if-size-eq0.true) c.measure_font.ensures).1

pub returns-clause-size : goal.returns-clause-size
returns-clause-size c =
    let new = c.measure_font-2.new in
    let wide : FitsSigned w64 c.from.result = search rules in
    (reads_at_size c.args.tfm.now c.args.size c.try_new-asked.result
    (metric_outputs c.args.glyphs.now c.args.parameters.now c.args.steps.now c.args.count.now c.args.fault.now)
    (metric_outputs new.glyphs new.parameters new.steps new.count new.fault) c.measure_font-2.result (nonzero_is c.args.size c.if-size-eq0.false)
    (same_asked c.try_new-asked.result c.from.result _ wide (c.from.ensures ∙ same_word c.args.size _ c.ranges.size refl) c.try_new-asked.ensures)
    c.if-is_none.ensures c.measure_font-2.ensures).0

pub returns-clause-done : goal.returns-clause-done
returns-clause-done c =
    let new = c.measure_font-2.new in
    let wide : FitsSigned w64 c.from.result = search rules in
    (reads_at_size c.args.tfm.now c.args.size c.try_new-asked.result
    (metric_outputs c.args.glyphs.now c.args.parameters.now c.args.steps.now c.args.count.now c.args.fault.now)
    (metric_outputs new.glyphs new.parameters new.steps new.count new.fault) c.measure_font-2.result (nonzero_is c.args.size c.if-size-eq0.false)
    (same_asked c.try_new-asked.result c.from.result _ wide (c.from.ensures ∙ same_word c.args.size _ c.ranges.size refl) c.try_new-asked.ensures)
    c.if-is_none.ensures c.measure_font-2.ensures).1
