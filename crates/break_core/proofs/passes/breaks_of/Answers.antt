use Rattle.std.proofs.Common.{sym, subst}
use Rattle.break_core.specs.Passes.{bound_of}
use Rattle.break_core.specs.Private.Filling.{AreEndsInParagraph}
use Rattle.break_core.proofs.Admitting.{answer_within}
use Rattle.break_core.proofs.Added.{all_by_passes, on_error}
use Rattle.break_core.proofs.passes.breaks_of.Goals as goal

pub line_ends-requires : goal.line_ends-requires
line_ends-requires g c =
    let is = answer_within (g.M.Meter.facts c.args.meter.now) c.args.params.now (bound_of c.args.params.now c.in_ok-pass.pass) c.in_ok-pass.least c.in_ok-pass.ensures.decided.answer in
    record {
      ends_bounded = subst (λ f. AreEndsInParagraph f c.deref.result.now) (sym c.in_ok-pass.ensures.facts)
          (subst (λ xs. AreEndsInParagraph (g.M.Meter.facts c.args.meter.now) xs) (sym c.deref.ensures.value) is);
    }

pub returns-in_err-pass-clause-refused : goal.returns-in_err-pass-clause-refused
returns-in_err-pass-clause-refused g c = λ on. on_error _ c.from_residual.result (
    all_by_passes (g.M.Meter.facts c.args.meter.now) c.args.params.now (g.M.Meter.trials c.args.meter.now) (g.M.Meter.trials c.decide.new.meter)
    c.requires.fresh (c.in_err-pass.ensures.refused on))

pub returns-in_err-lines-clause-refused : goal.returns-in_err-lines-clause-refused
returns-in_err-lines-clause-refused g c = λ on. on_error _ c.from_residual-in_err-lines.result (
    all_by_passes (g.M.Meter.facts c.args.meter.now) c.args.params.now (g.M.Meter.trials c.args.meter.now) (g.M.Meter.trials c.decide.new.meter)
    c.requires.fresh (record { last = c.in_ok-pass.pass; earlier = c.in_ok-pass.ensures.decided.earlier; added = c.in_ok-pass.ensures.run on }))
