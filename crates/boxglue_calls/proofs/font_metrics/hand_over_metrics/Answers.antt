-- The steps have no space, or all is written.
use Rattle.std.proofs.Common.{◌≡◌, ℕ, List, ap, arith, length, refl, rules, subst}
use Rattle.boxglue_calls.specs.Buffers.{Holds}
use Rattle.boxglue_calls.specs.Metrics.{metric_outputs}
use Rattle.boxglue_calls.specs.declared.font_rows.FontStep.{FontStep}
use Rattle.boxglue_calls.proofs.MeasuredFonts.{lacks_space, writes}
use Rattle.boxglue_calls.proofs.font_metrics.hand_over_metrics.Goals as goal

pub returns-then-len-steps : goal.returns-then-len-steps
returns-then-len-steps c = λ tfm size are.
    let given = c.args.metrics.now in
    let count : c.len.result ≡ length given.steps.items = search rules in
    let again : c.len-2.result ≡ length given.steps.items = search rules in
    lacks_space tfm size given.glyphs given.parameters given.steps.items
    (metric_outputs c.args.glyphs.now c.args.parameters.now c.args.steps.now c.args.count.now c.args.fault.now)
    (metric_outputs c.args.glyphs.now c.args.parameters.now c.args.steps.now c.len.result c.args.fault.now) 4 are
    (omega (arith, again, c.if-len-steps.true))
    (ap (λ (n : ℕ). metric_outputs c.args.glyphs.now c.args.parameters.now c.args.steps.now n c.args.fault.now) count) refl

pub returns : goal.returns
returns c = λ tfm size are.
    let given = c.args.metrics.now in
    let count : c.len.result ≡ length given.steps.items = search rules in
    let holds : Holds c.args.steps.now c.put.new.buffer c.deref.result.now = c.put.ensures in
    writes tfm size given.glyphs given.parameters given.steps.items
    (metric_outputs c.args.glyphs.now c.args.parameters.now c.args.steps.now c.args.count.now c.args.fault.now)
    (metric_outputs given.glyphs given.parameters c.put.new.buffer c.len.result c.no_fault.result) 0 are refl refl
    (subst (λ (items : List FontStep). Holds c.args.steps.now c.put.new.buffer items) c.deref.ensures.value holds) count c.no_fault.ensures refl
