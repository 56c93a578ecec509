use Rattle.std.proofs.Common.{◌≡◌, ◌∙◌, ◌+◌, ◌-◌, ◌≤◌, ◌<◌, ◌++◌, [], ◌∷◌, Some, cond, length, length-set, take, drop, set, to_z, of_z, w64, refl, ap, sym, subst, arith}
use Rattle.std.specs.Prelude.{slice_get}
use Rattle.std.proofs.Math.Logic.{inl}
use Rattle.std.proofs.lemmas.Int.{ints}
use Rattle.std.proofs.lemmas.List.{take-set-le, drop-map, length-map}
use Rattle.std.proofs.lemmas.Option.{slice_get_read}
use Rattle.break_lines.specs.Sizes.{least_width}
use Rattle.break_lines.specs.Tables.{IsRow}
use Rattle.break_core.specs.declared.active_list.Live.{Live}
use Rattle.break_core.specs.declared.counted.HeldLine.{HeldLine}
use Rattle.break_core.specs.declared.row.Row.{Row}
use Rattle.break_core.specs.Trials.{is_overfull}
use Rattle.break_core.specs.Private.LeftOut.{is_long, is_more, kept_over}
use Rattle.break_core.specs.Private.Active.{stops_after, stops_at, problem_leaving_out, groups_of, AreOver, HaveBest, IsActive}
use Rattle.break_lines.proofs.Rows.{row_empty}
use Rattle.break_lines.proofs.Entries.{get-set_same, get-set_other}
use Rattle.break_core.proofs.Offers.{row_counted}
use Rattle.break_core.proofs.Filled.{group_of}
use Rattle.break_core.proofs.Overfull.{overfull_of}
use Rattle.break_core.proofs.Stopping.{long_found, over_found, line_leaving_out, stopped_is, goes_on, stopped_silent}
use Rattle.break_core.proofs.Lives.{group_at, groups_kept, over_kept, best_kept, next_live, from_first, none_between, both_parts, parts_long}
use Rattle.break_core.proofs.Active.{row_end, front_more, IsFront}
use Rattle.break_core.proofs.Counts.{swept_more, fresh_more, kept_more, kept_none, tried_first}
use Rattle.break_core.proofs.Waiting.{rest_waits, front_with_rest, over_with_rest, best_joined, first_tried_from}
use Rattle.break_core.proofs.Held.{earlier_next, held_next, held_offered, held_can, held_fit}
use Rattle.break_core.proofs.counted.try_counted_lines.Goals as goal

pub try_line-sums-requires-clause-later : goal.try_line-sums-requires-clause-later
try_line-sums-requires-clause-later g c =
    let inv = c.loop-index.invariant in
    let rules_now = c.args.at.now.rules.now in
    let f = g.M.Meter.facts c.args.meter.now in
    let table = c.args.at.now.table.now in
    let lives = c.args.lives.now.list.items in
    let index = c.loop-index.index in
    let live = c.index-live.result.now in
    let within : index < length c.loop-index.lives.list.items = omega (arith, c.loop-index-test.true, c.len-end.ensures, inv.count) in
    let here : slice_get lives index ≡ Some live =
    sym (inv.rest index (omega arith)) ∙ slice_get_read c.loop-index.lives.list.items (length c.loop-index.lives.list.items) index live refl within c.index-live.ensures in
    let both = next_live f rules_now.params.now rules_now.bound rules_now.stop_rule table c.args.at.now.place inv.at inv.low lives index live here inv.live in
    let next = both.0 in
    next.group.earlier

pub try_line-sums-requires-clause-trials_bounded : goal.try_line-sums-requires-clause-trials_bounded
try_line-sums-requires-clause-trials_bounded g c =
    let inv = c.loop-index.invariant in
    let rules_now = c.args.at.now.rules.now in
    let f = g.M.Meter.facts c.args.meter.now in
    let table = c.args.at.now.table.now in
    let lives = c.args.lives.now.list.items in
    let index = c.loop-index.index in
    let live = c.index-live.result.now in
    let within : index < length c.loop-index.lives.list.items = omega (arith, c.loop-index-test.true, c.len-end.ensures, inv.count) in
    let here : slice_get lives index ≡ Some live =
    sym (inv.rest index (omega arith)) ∙ slice_get_read c.loop-index.lives.list.items (length c.loop-index.lives.list.items) index live refl within c.index-live.ensures in
    let both = next_live f rules_now.params.now rules_now.bound rules_now.stop_rule table c.args.at.now.place inv.at inv.low lives index live here inv.live in
    let next = both.0 in
    omega (arith, c.requires.trials_bounded live.group.place, inv.fresh live.group.place next.later)

pub keep_over-requires : goal.keep_over-requires
keep_over-requires g c =
    record { index_bounded = omega (arith, c.loop-index-test.true, c.len-end.ensures, c.loop-index.invariant.count) }

pub keep_group-kept-requires : goal.keep_group-kept-requires
keep_group-kept-requires g c =
    let items = c.loop-index.lives.list.items in
    let live = c.index-live.result.now in
    let overfull = c.is_overfull-overfull.result in
    let within : c.loop-index.index < length items = omega (arith, c.loop-index-test.true, c.len-end.ensures, c.loop-index.invariant.count) in
    let at_index = slice_get_read items (length items) c.loop-index.index live refl within c.index-live.ensures in
    let kept : Live =
    record { group = live.group; over = kept_over live.over overfull (to_z w64 (of_z w64 c.least_width-width.result)); best = live.best } in
    record {
      first_bounded = c.loop-index.invariant.first_bounded;
      kept_bounded = c.loop-index.invariant.kept_bounded;
      index_bounded = omega (arith, within, ap length (c.keep_over.ensures live at_index), length-set items c.loop-index.index kept);
    }

pub hold_next-now-requires-clause-can : goal.hold_next-now-requires-clause-can
hold_next-now-requires-clause-can g c =
    let inv = c.loop-index.invariant in
    let rules_now = c.args.at.now.rules.now in
    let params = rules_now.params.now in
    held_can (problem_leaving_out (g.M.Meter.facts c.args.meter.now) params rules_now.bound rules_now.stop_rule) params rules_now.bound c.args.at.now.table.now
    c.args.at.now.place inv.at inv.low c.args.at.now.penalty c.loop-index.held c.loop-index.row.counted.items inv.row

pub hold_next-now-requires-clause-fit_bounded : goal.hold_next-now-requires-clause-fit_bounded
hold_next-now-requires-clause-fit_bounded g c =
    let inv = c.loop-index.invariant in
    let rules_now = c.args.at.now.rules.now in
    let params = rules_now.params.now in
    held_fit (problem_leaving_out (g.M.Meter.facts c.args.meter.now) params rules_now.bound rules_now.stop_rule) params rules_now.bound c.args.at.now.table.now
    c.args.at.now.place inv.at inv.low c.args.at.now.penalty c.loop-index.held c.loop-index.row.counted.items inv.row

pub offer_held-last-requires-clause-can : goal.offer_held-last-requires-clause-can
offer_held-last-requires-clause-can g c =
    let inv = c.loop-index.invariant in
    let rules_now = c.args.at.now.rules.now in
    let params = rules_now.params.now in
    held_can (problem_leaving_out (g.M.Meter.facts c.args.meter.now) params rules_now.bound rules_now.stop_rule) params rules_now.bound c.args.at.now.table.now
    c.args.at.now.place inv.at inv.low c.args.at.now.penalty c.loop-index.held c.loop-index.row.counted.items inv.row

pub offer_held-last-requires-clause-fit_bounded : goal.offer_held-last-requires-clause-fit_bounded
offer_held-last-requires-clause-fit_bounded g c =
    let inv = c.loop-index.invariant in
    let rules_now = c.args.at.now.rules.now in
    let params = rules_now.params.now in
    held_fit (problem_leaving_out (g.M.Meter.facts c.args.meter.now) params rules_now.bound rules_now.stop_rule) params rules_now.bound c.args.at.now.table.now
    c.args.at.now.place inv.at inv.low c.args.at.now.penalty c.loop-index.held c.loop-index.row.counted.items inv.row

pub loop-index-preserved : goal.loop-index-preserved
loop-index-preserved g c =
    let inv = c.loop-index.invariant in
    let rules_now = c.args.at.now.rules.now in
    let f = g.M.Meter.facts c.args.meter.now in
    let table = c.args.at.now.table.now in
    let lives = c.args.lives.now.list.items in
    let index = c.loop-index.index in
    let live = c.index-live.result.now in
    let within : index < length c.loop-index.lives.list.items = omega (arith, c.loop-index-test.true, c.len-end.ensures, inv.count) in
    let here : slice_get lives index ≡ Some live =
    sym (inv.rest index (omega arith)) ∙ slice_get_read c.loop-index.lives.list.items (length c.loop-index.lives.list.items) index live refl within c.index-live.ensures in
    let both = next_live f rules_now.params.now rules_now.bound rules_now.stop_rule table c.args.at.now.place inv.at inv.low lives index live here inv.live in
    let next = both.0 in
    let params = rules_now.params.now in
    let rule = rules_now.stop_rule in
    let bound = rules_now.bound in
    let p = problem_leaving_out f params bound rule in
    let stop = stops_at f params rule in
    let group = live.group in
    let h = g.M.Meter.facts c.loop-index.meter in
    let sums = c.try_line-sums.result in
    let is_sums = c.try_line-sums.ensures.sums in
    let line = c.fit_both-line.result in
    let is_line = c.fit_both-line.ensures.value in
    let width = to_z w64 (of_z w64 c.least_width-width.result) in
    let exact : to_z w64 (of_z w64 c.least_width-width.result) ≡ c.least_width-width.result = omega (arith, ints) in
    let is_width : to_z w64 (of_z w64 c.least_width-width.result) ≡ least_width sums = exact ∙ c.least_width-width.ensures in
    let overfull = c.is_overfull-overfull.result in
    let long = is_more live.over width in
    let first = c.args.lives.now.first in
    let there : slice_get (drop first lives) (index - first) ≡ Some live = from_first lives first (index - first) index live (omega (arith, inv.begun)) here in
    let over = c.requires.over (index - first) live there in
    let best = c.requires.best (index - first) live there in
    let is_over : overfull ≡ is_overfull f params group.place c.args.at.now.place =
    c.is_overfull-overfull.ensures ∙ overfull_of f h params group.place c.args.at.now.place sums line is_line is_sums inv.facts in
    let is_long_line : long ≡ is_long f params group.place c.args.at.now.place =
    long_found f h params group.place c.args.at.now.place sums live.over width long refl over is_width
    is_sums inv.facts in
    let tried = line_leaving_out f h params bound rule group c.args.at.now.place c.args.at.now.penalty sums line c.leaves_out-left_out.result long
    c.requires.penalty is_line is_sums inv.facts c.leaves_out-left_out.ensures is_long_line in
    let stopped : c.stops_after-stopped.result ≡ stops_after rule overfull long =
    c.stops_after-stopped.ensures ∙ ap (stops_after rule overfull) c.leaves_out-left_out.ensures ∙ stopped_is rule overfull long in
    let items = c.loop-index.lives.list.items in
    let at_index = slice_get_read items (length items) index live refl within c.index-live.ensures in
    let next_over = kept_over live.over overfull width in
    let kept : Live = record { group = group; over = next_over; best = live.best } in
    let marked : c.keep_over.new.lives.items ≡ set items index kept = c.keep_over.ensures live at_index in
    let present : slice_get c.keep_over.new.lives.items index ≡ Some kept =
    ap (λ xs. slice_get xs index) marked ∙ get-set_same items index kept live at_index in
    let passed = c.loop-index.lives.first in
    let old = drop passed (take c.loop-index.kept items) in
    let new = drop c.keep_group-kept.new.lives.first (take c.keep_group-kept.result c.keep_group-kept.new.lives.list.items) in
    let same_front : take c.loop-index.kept c.keep_over.new.lives.items ≡ take c.loop-index.kept items =
    ap (take c.loop-index.kept) marked ∙ take-set-le c.loop-index.kept items index kept inv.kept_bounded in
    let made : new ≡ cond c.stops_after-stopped.result old (old ++ kept ∷ []) =
    c.keep_group-kept.ensures.front kept present ∙ ap (λ xs. cond c.stops_after-stopped.result (drop passed xs) (drop passed xs ++ kept ∷ [])) same_front in
    let near = c.neighbours_of-near.ensures.known table next.group.within c.requires.known in
    let held_line : HeldLine = record { group = group; left_out = c.leaves_out-left_out.result; line = line; last = group } in
    record {
      facts = c.try_line-sums.ensures.facts ∙ inv.facts;
      swept = swept_more stop c.args.at.now.place inv.low group.place (g.M.Meter.trials c.args.meter.now) (g.M.Meter.trials c.loop-index.meter)
          (g.M.Meter.trials c.try_line-sums.new.self) inv.swept inv.fresh next.later next.group.earlier next.not_stopped c.try_line-sums.ensures.counted
          c.try_line-sums.ensures.others;
      kept = kept_more group.place (g.M.Meter.trials c.args.meter.now) (g.M.Meter.trials c.loop-index.meter) (g.M.Meter.trials c.try_line-sums.new.self) inv.kept
          c.try_line-sums.ensures.counted c.try_line-sums.ensures.others;
      tried = λ some. tried_first (groups_of (drop first lives)) (index - first) group (g.M.Meter.trials c.args.meter.now) (g.M.Meter.trials c.loop-index.meter)
          (g.M.Meter.trials c.try_line-sums.new.self) (λ more. inv.tried (omega (arith, more))) inv.kept (group_at (drop first lives) (index - first) live there)
          c.try_line-sums.ensures.counted c.try_line-sums.ensures.others;
      at = group.end;
      low = group.place + 1;
      fresh = fresh_more inv.low group.place (g.M.Meter.trials c.args.meter.now) (g.M.Meter.trials c.loop-index.meter)
          (g.M.Meter.trials c.try_line-sums.new.self) inv.fresh next.later c.try_line-sums.ensures.others;
      live = both.1;
      earlier = earlier_next p stop table c.args.at.now.place inv.at inv.low group c.requires.last next inv.earlier;
      row = held_next p stop params bound table c.args.at.now.place inv.at inv.low c.args.at.now.penalty c.loop-index.held c.hold_next-now.new.held held_line c.neighbours_of-near.result
          c.loop-index.row.counted.items c.hold_next-now.new.row.items refl c.requires.last c.requires.places c.requires.penalty_bounded next inv.earlier
          refl c.neighbours_of-near.ensures.group near.0 near.1 (group_of p table c.args.at.now.place group c.requires.filled.is_table next.group) c.fit_both-line.ensures.fit_bounded tried inv.row
          c.hold_next-now.ensures.row;
      begun = omega (arith, inv.begun);
      first_bounded = c.keep_group-kept.ensures.first_bounded;
      kept_bounded = c.keep_group-kept.ensures.result_bounded;
      count = c.keep_group-kept.ensures.count ∙ ap length marked ∙ length-set items index kept ∙ inv.count;
      rest = λ k after. c.keep_group-kept.ensures.rest k (omega (arith, inv.kept_bounded)) ∙ ap (λ xs. slice_get xs k) marked
          ∙ get-set_other items index k kept (λ same. omega (arith, same)) ∙ inv.rest k (omega arith);
      front = front_more p stop table c.args.at.now.place c.args.at.now.place inv.at inv.low (groups_of old) (groups_of new) group c.stops_after-stopped.result inv.front next
          (goes_on f params rule group.place c.args.at.now.place overfull long c.stops_after-stopped.result stopped is_over is_long_line)
          (stopped_silent f params bound table c.args.at.now.place group rule overfull long c.stops_after-stopped.result stopped is_over is_long_line c.requires.may next.group)
          (groups_kept c.stops_after-stopped.result old new kept made);
      over = over_kept f params (c.args.at.now.place + 1) c.stops_after-stopped.result old new kept inv.over
          (over_found f h params group.place c.args.at.now.place sums live.over next_over width overfull next.group.earlier
          refl over is_over is_width is_sums inv.facts)
          made;
      best = best_kept table params c.stops_after-stopped.result old new kept inv.best best made;
      index_bounded = omega (arith, within, inv.count);
      untouched = λ none.
          let neither = c.either-offered.ensures none in
          c.hold_next-now.ensures.untouched neither.1 ∙ inv.untouched neither.0;
      offers = inv.offers;
    }

pub loop-index-init : goal.loop-index-init
loop-index-init g c =
    let f = g.M.Meter.facts c.args.meter.now in
    let rules_now = c.args.at.now.rules.now in
    let p = problem_leaving_out f rules_now.params.now rules_now.bound rules_now.stop_rule in
    let items = c.args.lives.now.list.items in
    let first = c.args.lives.now.first in
    let none : drop first (take first items) ≡ [] = none_between first items c.requires.first_bounded in
    record {
      facts = refl;
      swept = λ a. inl (omega arith);
      kept = kept_none (g.M.Meter.trials c.args.meter.now);
      tried = λ some. absurd (omega (arith, some));
      at = 0;
      low = 0;
      fresh = λ a less. omega arith;
      live = subst (IsActive p (stops_at f rules_now.params.now rules_now.stop_rule) c.args.at.now.table.now c.args.at.now.place c.args.at.now.place 0 0)
          (sym (drop-map (λ (x : Live). x.group) first items)) c.requires.filled.is_active;
      earlier = λ k o below offered. absurd (omega (arith, below));
      row = subst (IsRow p c.args.at.now.table.now c.args.at.now.place 0) (sym (c.requires.empty.counted c.requires.counted))
          (row_empty p c.args.at.now.table.now c.args.at.now.place);
      begun = omega arith;
      first_bounded = omega arith;
      kept_bounded = omega arith;
      count = refl;
      rest = λ k less. refl;
      front = subst (λ xs. IsFront p (stops_at f rules_now.params.now rules_now.stop_rule) c.args.at.now.table.now c.args.at.now.place c.args.at.now.place 0 0 (groups_of xs)) (sym none)
          (λ rest free active. active);
      over = subst (AreOver f rules_now.params.now (c.args.at.now.place + 1)) (sym none) (λ k x there. absurd (cc));
      best = subst (HaveBest c.args.at.now.table.now rules_now.params.now) (sym none) (λ k x there. absurd (cc));
      index_bounded = c.requires.first_bounded;
      untouched = λ _. refl;
      offers = refl;
    }

pub remove_groups-requires : goal.remove_groups-requires
remove_groups-requires g c =
    let inv = c.loop-index.invariant in
    record {
      kept_bounded = omega (arith, inv.kept_bounded, inv.index_bounded, c.len-end.ensures);
      next_bounded = omega (arith, c.len-end.ensures, inv.count);
    }

pub returns-clause-row : goal.returns-clause-row
returns-clause-row g c =
    let inv = c.loop-index.invariant in
    let f = g.M.Meter.facts c.args.meter.now in
    let rules_now = c.args.at.now.rules.now in
    let params = rules_now.params.now in
    let bound = rules_now.bound in
    let rule = rules_now.stop_rule in
    let table = c.args.at.now.table.now in
    let place = c.args.at.now.place in
    let lives = c.args.lives.now.list.items in
    let now = c.loop-index.lives.list.items in
    let end = c.len-end.result in
    let all : length lives ≤ end = omega (arith, c.len-end.ensures) in
    let last : c.loop-index.index ≡ end = omega (arith, c.loop-index-test.false, inv.index_bounded, c.len-end.ensures) in
    let p = problem_leaving_out f params bound rule in
    let new : Row = record { offers = c.loop-index.row.offers; counted = c.offer_held-last.new.row } in
    subst (IsRow p table place (length table)) (sym (row_counted params.first_lines table place new c.requires.counted))
    (row_end p (stops_at f params rule) table place place inv.at inv.low c.loop-index.index (groups_of lives) c.offer_held-last.new.row.items
    (omega (arith, last, all, length-map lives (λ (x : Live). x.group))) c.requires.last inv.live
    (held_offered p params bound table place inv.at inv.low c.args.at.now.penalty c.loop-index.held c.loop-index.row.counted.items c.offer_held-last.new.row.items refl
    inv.row c.offer_held-last.ensures.row))

pub returns-clause-held : goal.returns-clause-held
returns-clause-held g c = λ none. absurd (omega (arith, none, c.requires.counted))

pub returns-clause-live : goal.returns-clause-live
returns-clause-live g c = λ free.
    let inv = c.loop-index.invariant in
    let f = g.M.Meter.facts c.args.meter.now in
    let rules_now = c.args.at.now.rules.now in
    let params = rules_now.params.now in
    let bound = rules_now.bound in
    let rule = rules_now.stop_rule in
    let table = c.args.at.now.table.now in
    let place = c.args.at.now.place in
    let lives = c.args.lives.now.list.items in
    let now = c.loop-index.lives.list.items in
    let end = c.len-end.result in
    let all : length lives ≤ end = omega (arith, c.len-end.ensures) in
    let last : c.loop-index.index ≡ end = omega (arith, c.loop-index-test.false, inv.index_bounded, c.len-end.ensures) in
    let waiting = rest_waits f params bound rule table place inv.at inv.low c.args.lives.now.first c.loop-index.index end lives now inv.begun last inv.count inv.rest (inl all)
    c.requires.over c.requires.best inv.live in
    let first = c.loop-index.lives.first in
    let within : c.loop-index.kept ≤ length now = omega (arith, inv.kept_bounded, inv.index_bounded, inv.count) in
    subst (λ xs. IsActive (problem_leaving_out f params bound rule) (stops_at f params rule) table (place + 1) place 0 0 (groups_of xs))
    (sym (both_parts first c.loop-index.kept end now c.remove_groups.new.lives.items inv.first_bounded within c.remove_groups.ensures))
    (front_with_rest f params bound rule table place inv.at inv.low (drop first (take c.loop-index.kept now)) (drop end now) c.requires.may c.requires.last
    free waiting inv.front)

pub returns-clause-over : goal.returns-clause-over
returns-clause-over g c =
    let inv = c.loop-index.invariant in
    let f = g.M.Meter.facts c.args.meter.now in
    let rules_now = c.args.at.now.rules.now in
    let params = rules_now.params.now in
    let bound = rules_now.bound in
    let rule = rules_now.stop_rule in
    let table = c.args.at.now.table.now in
    let place = c.args.at.now.place in
    let lives = c.args.lives.now.list.items in
    let now = c.loop-index.lives.list.items in
    let end = c.len-end.result in
    let all : length lives ≤ end = omega (arith, c.len-end.ensures) in
    let last : c.loop-index.index ≡ end = omega (arith, c.loop-index-test.false, inv.index_bounded, c.len-end.ensures) in
    let waiting = rest_waits f params bound rule table place inv.at inv.low c.args.lives.now.first c.loop-index.index end lives now inv.begun last inv.count inv.rest (inl all)
    c.requires.over c.requires.best inv.live in
    let first = c.loop-index.lives.first in
    let within : c.loop-index.kept ≤ length now = omega (arith, inv.kept_bounded, inv.index_bounded, inv.count) in
    subst (AreOver f params (place + 1))
    (sym (both_parts first c.loop-index.kept end now c.remove_groups.new.lives.items inv.first_bounded within c.remove_groups.ensures))
    (over_with_rest f params bound rule table place inv.at inv.low (drop first (take c.loop-index.kept now)) (drop end now) waiting inv.over)

pub returns-clause-best : goal.returns-clause-best
returns-clause-best g c =
    let inv = c.loop-index.invariant in
    let f = g.M.Meter.facts c.args.meter.now in
    let rules_now = c.args.at.now.rules.now in
    let params = rules_now.params.now in
    let bound = rules_now.bound in
    let rule = rules_now.stop_rule in
    let table = c.args.at.now.table.now in
    let place = c.args.at.now.place in
    let lives = c.args.lives.now.list.items in
    let now = c.loop-index.lives.list.items in
    let end = c.len-end.result in
    let all : length lives ≤ end = omega (arith, c.len-end.ensures) in
    let last : c.loop-index.index ≡ end = omega (arith, c.loop-index-test.false, inv.index_bounded, c.len-end.ensures) in
    let waiting = rest_waits f params bound rule table place inv.at inv.low c.args.lives.now.first c.loop-index.index end lives now inv.begun last inv.count inv.rest (inl all)
    c.requires.over c.requires.best inv.live in
    let first = c.loop-index.lives.first in
    let within : c.loop-index.kept ≤ length now = omega (arith, inv.kept_bounded, inv.index_bounded, inv.count) in
    subst (HaveBest table params)
    (sym (both_parts first c.loop-index.kept end now c.remove_groups.new.lives.items inv.first_bounded within c.remove_groups.ensures))
    (best_joined table params (drop first (take c.loop-index.kept now)) (drop end now) inv.best waiting.best)

pub returns-clause-tried : goal.returns-clause-tried
returns-clause-tried g c =
    let inv = c.loop-index.invariant in
    let f = g.M.Meter.facts c.args.meter.now in
    let rules_now = c.args.at.now.rules.now in
    let params = rules_now.params.now in
    let bound = rules_now.bound in
    let rule = rules_now.stop_rule in
    let table = c.args.at.now.table.now in
    let place = c.args.at.now.place in
    let lives = c.args.lives.now.list.items in
    let now = c.loop-index.lives.list.items in
    let end = c.len-end.result in
    let all : length lives ≤ end = omega (arith, c.len-end.ensures) in
    let last : c.loop-index.index ≡ end = omega (arith, c.loop-index-test.false, inv.index_bounded, c.len-end.ensures) in
    first_tried_from c.args.lives.now.first c.loop-index.index end lives (g.M.Meter.trials c.args.meter.now) (g.M.Meter.trials c.loop-index.meter)
    inv.begun last (inl all) inv.tried

pub returns-clause-untouched : goal.returns-clause-untouched
returns-clause-untouched g c = λ none.
    let neither = c.either.ensures none in
    let inv = c.loop-index.invariant in
    record { offers = inv.offers; counted = c.offer_held-last.ensures.untouched neither.1 ∙ inv.untouched neither.0 }

pub returns-clause-first_bounded : goal.returns-clause-first_bounded
returns-clause-first_bounded g c =
    let inv = c.loop-index.invariant in
    let now = c.loop-index.lives.list.items in
    let within : c.loop-index.kept ≤ length now = omega (arith, inv.kept_bounded, inv.index_bounded, inv.count) in
    parts_long c.loop-index.lives.first c.loop-index.kept c.len-end.result now c.remove_groups.new.lives.items inv.first_bounded within c.remove_groups.ensures
