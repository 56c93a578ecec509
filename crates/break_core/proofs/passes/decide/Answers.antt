use Rattle.std.proofs.Common.{◌∙◌, refl}
use Rattle.break_core.specs.declared.broken.Pass.TheVariants.{First, Second, Third}
use Rattle.break_core.specs.Passes.{bound_of}
use Rattle.break_core.proofs.Admitting.{found_none, found_some, before_second, before_third, last_admits}
use Rattle.break_core.proofs.Added.{second_added, third_added, on_error, first_refused, second_refused, third_refused}
use Rattle.break_core.proofs.passes.decide.Goals as goal

pub returns-in-Some-2-clause-decided : goal.returns-in-Some-2-clause-decided
returns-in-Some-2-clause-decided g c =
    let f = g.M.Meter.facts c.args.meter.now in
    let params = c.args.params.now in
    let first = found_none f f params (bound_of params First) c.in_ok-least.field-0 refl c.in_default.is c.in_ok-least.ensures.found in
    let second = found_some f (g.M.Meter.facts c.chosen_first.new.meter) params (bound_of params Second) c.in_ok-least-2.field-0 c.in-Some-2.least
    c.in_ok-least.ensures.facts c.in-Some-2.is c.in_ok-least-2.ensures.found in
    record { answer = second; earlier = before_second f params first }

pub unreachable-requires : goal.unreachable-requires
unreachable-requires g c =
    let f = g.M.Meter.facts c.args.meter.now in
    let params = c.args.params.now in
    let none = found_none f (g.M.Meter.facts c.chosen_in.new.meter) params (bound_of params Third) c.in_ok-least-3.field-0
    (c.in_ok-least-2.ensures.facts ∙ c.in_ok-least.ensures.facts) c.in-None.is c.in_ok-least-3.ensures.found in
    last_admits f params none

pub returns-clause-decided : goal.returns-clause-decided
returns-clause-decided g c =
    let f = g.M.Meter.facts c.args.meter.now in
    let params = c.args.params.now in
    let first = found_none f f params (bound_of params First) c.in_ok-least.field-0 refl c.in_default.is c.in_ok-least.ensures.found in
    let second = found_none f (g.M.Meter.facts c.chosen_first.new.meter) params (bound_of params Second) c.in_ok-least-2.field-0
    c.in_ok-least.ensures.facts c.in_default-2.is c.in_ok-least-2.ensures.found in
    let third = found_some f (g.M.Meter.facts c.chosen_in.new.meter) params (bound_of params Third) c.in_ok-least-3.field-0 c.in-Some-3.least
    (c.in_ok-least-2.ensures.facts ∙ c.in_ok-least.ensures.facts) c.in-Some-3.is c.in_ok-least-3.ensures.found in
    record { answer = third; earlier = before_third f params first second }

pub returns-in_err-least-clause-refused : goal.returns-in_err-least-clause-refused
returns-in_err-least-clause-refused g c = λ on. on_error _ c.from_residual.result (
    first_refused (g.M.Meter.facts c.args.meter.now) c.args.params.now (g.M.Meter.trials c.args.meter.now) (g.M.Meter.trials c.chosen_first.new.meter)
    (c.in_err-least.ensures.trials on))

pub returns-in_err-least-2-clause-refused : goal.returns-in_err-least-2-clause-refused
returns-in_err-least-2-clause-refused g c = λ on.
    let f = g.M.Meter.facts c.args.meter.now in
    let params = c.args.params.now in
    let first = found_none f f params (bound_of params First) c.in_ok-least.field-0 refl c.in_default.is c.in_ok-least.ensures.found in
    on_error _ c.from_residual-in_err-least-2.result (second_refused f params (g.M.Meter.trials c.args.meter.now) (g.M.Meter.trials c.chosen_in.new.meter) first
    (second_added f (g.M.Meter.facts c.chosen_first.new.meter) params (g.M.Meter.trials c.args.meter.now) (g.M.Meter.trials c.chosen_first.new.meter)
    (g.M.Meter.trials c.chosen_in.new.meter) c.in_ok-least.ensures.facts (c.in_ok-least.ensures.trials on) (c.in_err-least-2.ensures.trials on)))

pub returns-in-Some-2-clause-run : goal.returns-in-Some-2-clause-run
returns-in-Some-2-clause-run g c = λ on.
    second_added (g.M.Meter.facts c.args.meter.now) (g.M.Meter.facts c.chosen_first.new.meter) c.args.params.now (g.M.Meter.trials c.args.meter.now)
    (g.M.Meter.trials c.chosen_first.new.meter) (g.M.Meter.trials c.chosen_in.new.meter) c.in_ok-least.ensures.facts (c.in_ok-least.ensures.trials on)
    (c.in_ok-least-2.ensures.trials on)

pub returns-in_err-least-3-clause-refused : goal.returns-in_err-least-3-clause-refused
returns-in_err-least-3-clause-refused g c = λ on.
    let f = g.M.Meter.facts c.args.meter.now in
    let params = c.args.params.now in
    let first = found_none f f params (bound_of params First) c.in_ok-least.field-0 refl c.in_default.is c.in_ok-least.ensures.found in
    let second = found_none f (g.M.Meter.facts c.chosen_first.new.meter) params (bound_of params Second) c.in_ok-least-2.field-0
    c.in_ok-least.ensures.facts c.in_default-2.is c.in_ok-least-2.ensures.found in
    let two = second_added f (g.M.Meter.facts c.chosen_first.new.meter) params (g.M.Meter.trials c.args.meter.now) (g.M.Meter.trials c.chosen_first.new.meter)
    (g.M.Meter.trials c.chosen_in.new.meter) c.in_ok-least.ensures.facts (c.in_ok-least.ensures.trials on) (c.in_ok-least-2.ensures.trials on) in
    on_error _ c.from_residual-in_err-least-3.result (third_refused f params (g.M.Meter.trials c.args.meter.now) (g.M.Meter.trials c.chosen_in-2.new.meter) first second
    (third_added f (g.M.Meter.facts c.chosen_in.new.meter) params (g.M.Meter.trials c.args.meter.now) (g.M.Meter.trials c.chosen_in.new.meter)
    (g.M.Meter.trials c.chosen_in-2.new.meter) (c.in_ok-least-2.ensures.facts ∙ c.in_ok-least.ensures.facts) two (c.in_err-least-3.ensures.trials on)))

pub returns-clause-run : goal.returns-clause-run
returns-clause-run g c = λ on.
    let f = g.M.Meter.facts c.args.meter.now in
    let params = c.args.params.now in
    let two = second_added f (g.M.Meter.facts c.chosen_first.new.meter) params (g.M.Meter.trials c.args.meter.now) (g.M.Meter.trials c.chosen_first.new.meter)
    (g.M.Meter.trials c.chosen_in.new.meter) c.in_ok-least.ensures.facts (c.in_ok-least.ensures.trials on) (c.in_ok-least-2.ensures.trials on) in
    third_added f (g.M.Meter.facts c.chosen_in.new.meter) params (g.M.Meter.trials c.args.meter.now) (g.M.Meter.trials c.chosen_in.new.meter)
    (g.M.Meter.trials c.chosen_in-2.new.meter) (c.in_ok-least-2.ensures.facts ∙ c.in_ok-least.ensures.facts) two (c.in_ok-least-3.ensures.trials on)
