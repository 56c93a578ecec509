-- A signed number that is passed on is the same number.
use Rattle.std.proofs.Common.{ℤ, subst}
use Rattle.std.specs.Int.{w32}
use Rattle.std.proofs.lemmas.Int.{to_z-of_z}
use Rattle.boxglue_calls.specs.Calls.{ReadsMetrics, RefusesSize}
use Rattle.boxglue_calls.specs.Metrics.{metric_outputs}
use Rattle.boxglue_c.proofs.boxglue_metrics.Goals as goal

pub returns-clause-size : goal.returns-clause-size
returns-clause-size c = subst (λ (size : ℤ). RefusesSize size c.metrics.result) (to_z-of_z w32 c.args.size c.ranges.size) c.metrics.ensures.size

pub returns-clause-done : goal.returns-clause-done
returns-clause-done c =
    let old = metric_outputs c.args.glyphs.now c.args.parameters.now c.args.steps.now c.args.count.now c.args.fault.now in
    let new = metric_outputs c.metrics.new.glyphs c.metrics.new.parameters c.metrics.new.steps c.metrics.new.count c.metrics.new.fault in
    subst (λ (size : ℤ). ReadsMetrics c.args.tfm.now size old new c.metrics.result) (to_z-of_z w32 c.args.size c.ranges.size) c.metrics.ensures.done
