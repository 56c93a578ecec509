use Rattle.std.proofs.Common.{◌≡◌, ◌∙◌, ◌+◌, ℕ, [], ◌∷◌, length, false, refl, ap, sym, subst, rules, arith}
use Rattle.break_lines.specs.Tables.{first_entry, IsTable}
use Rattle.break_lines.specs.declared.group.ActiveGroup.{ActiveGroup}
use Rattle.break_core.specs.Private.Active.{stops_at, problem_leaving_out, groups_of, live_of, AreOver, HasBest, IsFilled, IsSwept}
use Rattle.break_core.specs.Private.Near.{HaveNeighbours}
use Rattle.break_core.specs.Private.Offers.{IsEmpty, AreBestFor}
use Rattle.break_core.proofs.Active.{table_rest}
use Rattle.break_core.proofs.Counts.{counted_none, counted_more, counted_longer, kept_none, kept_on, started_more, started_none, start_group}
use Rattle.break_core.proofs.Lives.{filled_start, over_first, best_kept}
use Rattle.break_core.proofs.filling.fill_places.Goals as goal

pub loop-before-init : goal.loop-before-init
loop-before-init g c =
    let f = g.M.Meter.facts c.args.meter.now in
    let params = c.args.rules.now.params.now in
    let rule = c.args.rules.now.stop_rule in
    let stop = stops_at f params rule in
    let live = c.first_live-live.result in
    let group : live.group ≡ start_group = c.first_live-live.ensures.group in
    let table : c.push.new.self.items ≡ first_entry ∷ [] = search rules in
    let lives : c.push-2.new.self.items ≡ live ∷ [] = search rules in
    let near : c.new.result.items ≡ [] = search rules in
    let best : HasBest c.push.new.self.items params live = λ none.
    subst (λ (x : ActiveGroup). AreBestFor c.push.new.self.items params x.start x.end live.best) (sym group)
    (subst (λ t. AreBestFor t params 0 1 live.best) c.deref.ensures.value (c.first_live-live.ensures.first none)) in
    record {
      facts = refl;
      counted = counted_none stop (g.M.Meter.trials c.args.meter.now);
      filled = filled_start (problem_leaving_out f params c.args.rules.now.bound rule) stop c.push.new.self.items c.push-2.new.self.items live table lives
          (ap (λ (x : ActiveGroup). x.place) group) (ap (λ (x : ActiveGroup). x.start) group) (ap (λ (x : ActiveGroup). x.end) group);
      over = subst (AreOver f params 1) (sym lives) (over_first f params live (ap (λ (x : ActiveGroup). x.place) group) c.first_live-live.ensures.over);
      first_bounded = omega arith;
      known = subst (HaveNeighbours c.push.new.self.items) (sym near) (λ k x there. absurd (cc));
      best = best_kept c.push.new.self.items params false [] c.push-2.new.self.items live (λ k x there. absurd (cc)) best lives;
      kept = kept_none (g.M.Meter.trials c.args.meter.now);
      begins = λ _. ap groups_of lives ∙ ap (λ (x : ActiveGroup). x ∷ []) group;
      started = λ some. absurd (omega (arith, some));
      empty = subst (λ n. IsEmpty n c.in_ok-row.row) c.get.ensures.value c.in_ok-row.ensures;
    }

pub loop-before-preserved : goal.loop-before-preserved
loop-before-preserved g c =
    let inv = c.loop-before.invariant in
    let before : ℕ = c.loop-before.before in
    let params = c.args.rules.now.params.now in
    let bound = c.args.rules.now.bound in
    let rule = c.args.rules.now.stop_rule in
    let first : ℕ → ℕ = g.M.Meter.trials c.args.meter.now in
    let middle : ℕ → ℕ = g.M.Meter.trials c.loop-before.meter in
    let now : ℕ → ℕ = g.M.Meter.trials c.add_place.new.meter in
    let next = c.in_ok-add_place.ensures in
    record {
      facts = c.add_place.ensures.facts ∙ inv.facts;
      counted = counted_more (stops_at (g.M.Meter.facts c.args.meter.now) params rule) before first middle now inv.counted
          (subst (λ f. IsSwept (stops_at f params rule) (before + 1) middle now) inv.facts c.add_place.ensures.trials);
      filled = subst (λ f. IsFilled (problem_leaving_out f params bound rule) (stops_at f params rule) (before + 1 + 1) c.add_place.new.reached.table.items
          (groups_of (live_of c.add_place.new.reached.live))) inv.facts next.filled;
      over = subst (λ f. AreOver f params (before + 1 + 1) (live_of c.add_place.new.reached.live)) inv.facts next.over;
      best = next.best;
      known = next.known;
      first_bounded = next.first_bounded;
      kept = kept_on first middle now inv.kept c.add_place.ensures.kept;
      begins = λ none. absurd (omega (arith, none));
      started = λ some. started_more before (groups_of (live_of c.loop-before.reached.live)) first middle now inv.begins inv.started inv.kept c.add_place.ensures.kept next.tried;
      empty = next.empty;
    }

pub returns-clause-tried : goal.returns-clause-tried
returns-clause-tried g c =
    c.loop-before.invariant.started (omega (arith, c.loop-before-test.false, c.places-before-end.ensures.count, g.met.M.Meter.has_places c.args.meter.now))

pub returns-then-is_empty-clause-table : goal.returns-then-is_empty-clause-table
returns-then-is_empty-clause-table g c =
    let f = g.M.Meter.facts c.args.meter.now in
    let rules_now = c.args.rules.now in
    let live = c.loop-before.reached.live in
    let none : groups_of (live_of live) ≡ [] = ap groups_of (c.is_empty.ensures c.if-is_empty.true) in
    table_rest (problem_leaving_out f rules_now.params.now rules_now.bound rules_now.stop_rule) (stops_at f rules_now.params.now rules_now.stop_rule) (c.loop-before.before + 1) c.loop-before.reached.table.items
    (groups_of (live_of live)) (omega arith) (omega (arith, c.loop-before-test.true, c.places-before-end.ensures.count, ap (λ x. x.places) c.loop-before.invariant.facts))
    none c.loop-before.invariant.filled

pub returns-then-is_empty-clause-trials : goal.returns-then-is_empty-clause-trials
returns-then-is_empty-clause-trials g c =
    let f = g.M.Meter.facts c.args.meter.now in
    counted_longer (stops_at f c.args.rules.now.params.now c.args.rules.now.stop_rule) c.loop-before.before f.places (g.M.Meter.trials c.args.meter.now) (g.M.Meter.trials c.loop-before.meter)
    (omega (arith, c.loop-before-test.true, c.places-before-end.ensures.count, ap (λ x. x.places) c.loop-before.invariant.facts)) c.loop-before.invariant.counted

pub returns-then-is_empty-clause-tried : goal.returns-then-is_empty-clause-tried
returns-then-is_empty-clause-tried g c =
    let inv = c.loop-before.invariant in
    let live = c.loop-before.reached.live in
    let none : groups_of (live_of live) ≡ [] = ap groups_of (c.is_empty.ensures c.if-is_empty.true) in
    started_none c.loop-before.before (groups_of (live_of live)) (g.M.Meter.trials c.args.meter.now) (g.M.Meter.trials c.loop-before.meter) none inv.begins inv.started

pub first_live-live-requires-clause-group_bounded : goal.first_live-live-requires-clause-group_bounded
first_live-live-requires-clause-group_bounded g c =
    let table : c.push.new.self.items ≡ first_entry ∷ [] = search rules in
    omega (arith, ap length (c.deref.ensures.value ∙ table))

pub returns-clause-table : goal.returns-clause-table
returns-clause-table g c =
    let f = g.M.Meter.facts c.args.meter.now in
    let rules_now = c.args.rules.now in
    let end : c.loop-before.before + 1 ≡ f.places + 1 =
    omega (arith, c.loop-before-test.false, c.loop-before.auto.before-end, c.places-before-end.ensures.count, ap (λ x. x.places) c.loop-before.invariant.facts) in
    subst (λ n. IsTable (problem_leaving_out f rules_now.params.now rules_now.bound rules_now.stop_rule) n c.loop-before.reached.table.items) end
    c.loop-before.invariant.filled.is_table
