use Rattle.std.proofs.Common.{◌+◌, sym, subst}
use Rattle.std.specs.Prelude.{IfOk}
use Rattle.break_lines.specs.Tables.{IsTable}
use Rattle.break_core.specs.Private.Active.{problem_leaving_out, MayStop}
use Rattle.break_core.proofs.Added.{within_pass}
use Rattle.break_core.proofs.Admitting.{Found, all_found}
use Rattle.break_core.proofs.passes.chosen_in.Goals as goal

pub returns-in_err-table-clause-trials : goal.returns-in_err-table-clause-trials
returns-in_err-table-clause-trials g c = λ on.
    within_pass (g.M.Meter.facts c.args.meter.now) c.args.params.now c.args.pass c.stop_rule_in.result (g.M.Meter.trials c.args.meter.now)
    (g.M.Meter.trials c.fill.new.meter) (c.stop_rule_in.ensures.overfull on) c.in_err-table.ensures.trials

pub returns-clause-found : goal.returns-clause-found
returns-clause-found g c =
    let f = g.M.Meter.facts c.args.meter.now in
    let params = c.args.params.now in
    let bound = c.bound_of-bound.result in
    let rule = c.stop_rule_in.result in
    let p = problem_leaving_out f params bound rule in
    let may : MayStop rule f params bound = subst (MayStop rule f params) (sym c.bound_of-bound.ensures) c.stop_rule_in.ensures.may in
    let table : IsTable p (c.places-places.result + 1) c.deref.result.now =
    subst (IsTable p (c.places-places.result + 1)) (sym c.deref.ensures.value)
    (subst (λ n. IsTable p (n + 1) c.in_ok-table.table.items) (sym c.places-places.ensures.count) c.in_ok-table.ensures.table) in
    subst (λ b. IfOk c.chosen_list.result (Found f params b)) c.bound_of-bound.ensures
    (all_found f params bound rule c.chosen_list.result may (c.chosen_list.ensures p (sym c.places-places.ensures.count) table))

pub returns-clause-trials : goal.returns-clause-trials
returns-clause-trials g c = λ on.
    within_pass (g.M.Meter.facts c.args.meter.now) c.args.params.now c.args.pass c.stop_rule_in.result (g.M.Meter.trials c.args.meter.now)
    (g.M.Meter.trials c.fill.new.meter) (c.stop_rule_in.ensures.overfull on) c.in_ok-table.ensures.trials
