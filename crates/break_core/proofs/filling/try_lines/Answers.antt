use Rattle.std.proofs.Common.{◌≡◌, ◌∙◌, ◌+◌, ◌-◌, ◌≤◌, ◌<◌, ◌++◌, [], ◌∷◌, Some, None, Bool, true, ℕ, cond, length, length-set, take, drop, set, refl, ap, sym, subst, rules, arith}
use Rattle.std.specs.Prelude.{slice_get, vec_len}
use Rattle.std.proofs.Math.Logic.{◌⊎◌, inl, inr}
use Rattle.std.proofs.lemmas.List.{length-replicate, take-set-le, drop-map}
use Rattle.std.proofs.lemmas.Option.{same_Some, slice_get_read, slice_get_within}
use Rattle.break_lines.specs.Sizes.{least_width, fits_of_sums}
use Rattle.break_core.specs.declared.active_list.Live.{Live}
use Rattle.break_core.specs.Trials.{is_overfull}
use Rattle.break_core.specs.Private.LeftOut.{is_long, is_more, kept_over}
use Rattle.break_core.specs.Private.Active.{stops_after, leaves_out, stops_at, problem_leaving_out, groups_of, AreOver, HasBest, HaveBest, IsActive, CostLoosest, CanAllWait, AreRising, AreOffersBefore, IsOfferingWaiting}
use Rattle.break_lines.specs.Tables.{slots, IsRow}
use Rattle.break_lines.proofs.Rows.{row_empty}
use Rattle.break_lines.proofs.Entries.{get-set_same, get-set_other}
use Rattle.break_core.specs.Private.Filling.{CanOffer, IsOfferingUnless}
use Rattle.break_core.specs.Private.Offers.{row_at, AreOffers}
use Rattle.break_core.proofs.Offers.{row_none, offers_none, offers_later, same_row, same_rows}
use Rattle.break_core.proofs.Filled.{group_of}
use Rattle.break_core.proofs.Overfull.{overfull_of}
use Rattle.break_core.proofs.Stopping.{long_found, over_found, line_leaving_out, none_left_out, stopped_is, goes_on, stopped_silent}
use Rattle.break_core.proofs.Lives.{group_at, groups_kept, over_kept, best_kept, next_live, from_first, none_between, both_parts, parts_long}
use Rattle.break_core.proofs.Active.{row_silent, front_more, IsFront}
use Rattle.break_core.proofs.Counts.{swept_more, fresh_more, kept_more, kept_none, tried_first}
use Rattle.break_core.proofs.Waiting.{active_rising, first_later, low_within, later_loosest, rest_waits, can_wait, can_uncounted, costs_waiting, front_with_rest, over_with_rest, best_joined, first_tried_from}
use Rattle.break_core.proofs.filling.try_lines.Goals as goal

-- After the last trial there is no other group, or the others wait.
ended_by : {A : Type 0} (index end : ℕ) {n : ℕ} {waits : Bool} → (end ≤ index) ⊎ (waits ≡ true) → end ≡ n → (waits ≡ true → A) → (n ≤ index) ⊎ A
ended_by index end (inl all) is known = inl (omega (arith, all, is))
ended_by index end (inr some) is known = inr (known some)

pub try_line-sums-requires-clause-later : goal.try_line-sums-requires-clause-later
try_line-sums-requires-clause-later g c =
    let inv = c.loop-waits.invariant in
    let rules_now = c.args.at.rules.now in
    let f = g.M.Meter.facts c.args.meter.now in
    let table = c.args.at.table.now in
    let lives = c.args.lives.now.list.items in
    let index = c.loop-waits.index in
    let live = c.index-live.result.now in
    let within : index < length c.loop-waits.lives.list.items = omega (arith, (c.has_next.ensures.next c.loop-waits-test.true), inv.end_is, inv.count) in
    let here : slice_get lives index ≡ Some live =
    sym (inv.rest index (omega arith)) ∙ slice_get_read c.loop-waits.lives.list.items (length c.loop-waits.lives.list.items) index live refl within c.index-live.ensures in
    let both = next_live f rules_now.params.now rules_now.bound rules_now.stop_rule table c.args.at.place inv.at inv.low lives index live here inv.live in
    let next = both.0 in
    next.group.earlier

pub try_line-sums-requires-clause-trials_bounded : goal.try_line-sums-requires-clause-trials_bounded
try_line-sums-requires-clause-trials_bounded g c =
    let inv = c.loop-waits.invariant in
    let rules_now = c.args.at.rules.now in
    let f = g.M.Meter.facts c.args.meter.now in
    let table = c.args.at.table.now in
    let lives = c.args.lives.now.list.items in
    let index = c.loop-waits.index in
    let live = c.index-live.result.now in
    let within : index < length c.loop-waits.lives.list.items = omega (arith, (c.has_next.ensures.next c.loop-waits-test.true), inv.end_is, inv.count) in
    let here : slice_get lives index ≡ Some live =
    sym (inv.rest index (omega arith)) ∙ slice_get_read c.loop-waits.lives.list.items (length c.loop-waits.lives.list.items) index live refl within c.index-live.ensures in
    let both = next_live f rules_now.params.now rules_now.bound rules_now.stop_rule table c.args.at.place inv.at inv.low lives index live here inv.live in
    let next = both.0 in
    omega (arith, c.requires.trials_bounded live.group.place, inv.fresh live.group.place next.later)

pub index-requires : goal.index-requires
index-requires g c =
    let inv = c.loop-waits.invariant in
    let rules_now = c.args.at.rules.now in
    let f = g.M.Meter.facts c.args.meter.now in
    let table = c.args.at.table.now in
    let lives = c.args.lives.now.list.items in
    let index = c.loop-waits.index in
    let live = c.index-live.result.now in
    let within : index < length c.loop-waits.lives.list.items = omega (arith, (c.has_next.ensures.next c.loop-waits-test.true), inv.end_is, inv.count) in
    let here : slice_get lives index ≡ Some live =
    sym (inv.rest index (omega arith)) ∙ slice_get_read c.loop-waits.lives.list.items (length c.loop-waits.lives.list.items) index live refl within c.index-live.ensures in
    let both = next_live f rules_now.params.now rules_now.bound rules_now.stop_rule table c.args.at.place inv.at inv.low lives index live here inv.live in
    let next = both.0 in
    let items = c.loop-waits.lives.list.items in
    let overfull = c.is_overfull-overfull.result in
    let at_index = slice_get_read items (length items) index live refl within c.index-live.ensures in
    let kept : Live = record { group = live.group; over = kept_over live.over overfull (least_width c.judge-line.result.sums); best = live.best } in
    let marked : c.keep_over_after.new.lives.items ≡ set items index kept = c.keep_over_after.ensures live at_index in
    let present : slice_get c.keep_over_after.new.lives.items index ≡ Some kept =
    ap (λ xs. slice_get xs index) marked ∙ get-set_same items index kept live at_index in
    let inside : index < length c.keep_over_after.new.lives.items = slice_get_within c.keep_over_after.new.lives.items index kept present in
    let size : vec_len c.keep_over_after.new.lives ≡ length c.keep_over_after.new.lives.items = search rules in
    omega (arith, inside, size)

pub offer_line-now-requires : goal.offer_line-now-requires
offer_line-now-requires g c =
    let inv = c.loop-waits.invariant in
    let rules_now = c.args.at.rules.now in
    let f = g.M.Meter.facts c.args.meter.now in
    let table = c.args.at.table.now in
    let lives = c.args.lives.now.list.items in
    let index = c.loop-waits.index in
    let live = c.index-live.result.now in
    let within : index < length c.loop-waits.lives.list.items = omega (arith, (c.has_next.ensures.next c.loop-waits-test.true), inv.end_is, inv.count) in
    let here : slice_get lives index ≡ Some live =
    sym (inv.rest index (omega arith)) ∙ slice_get_read c.loop-waits.lives.list.items (length c.loop-waits.lives.list.items) index live refl within c.index-live.ensures in
    let both = next_live f rules_now.params.now rules_now.bound rules_now.stop_rule table c.args.at.place inv.at inv.low lives index live here inv.live in
    let next = both.0 in
    let items = c.loop-waits.lives.list.items in
    let overfull = c.is_overfull-overfull.result in
    let at_index = slice_get_read items (length items) index live refl within c.index-live.ensures in
    let kept : Live = record { group = live.group; over = kept_over live.over overfull (least_width c.judge-line.result.sums); best = live.best } in
    let marked : c.keep_over_after.new.lives.items ≡ set items index kept = c.keep_over_after.ensures live at_index in
    let present : slice_get c.keep_over_after.new.lives.items index ≡ Some kept =
    ap (λ xs. slice_get xs index) marked ∙ get-set_same items index kept live at_index in
    let found = c.index.result.now in
    let inside : index < length c.keep_over_after.new.lives.items = slice_get_within c.keep_over_after.new.lives.items index kept present in
    let same_live : kept ≡ found =
    same_Some kept found (sym present ∙ slice_get_read c.keep_over_after.new.lives.items (length c.keep_over_after.new.lives.items) index found refl inside c.index.ensures) in
    let params = rules_now.params.now in
    let place = c.args.at.place in
    let penalty = c.args.at.penalty in
    let row = row_at params.first_lines table place c.loop-waits.row in
    record {
      uncounted = c.requires.uncounted;
      can = subst (λ (x : Live). CanOffer params.first_lines row table x.group place penalty) same_live
          (record {
            wide = inv.wide;
            rises = next.group.rises;
            within = next.group.within;
            earlier = next.group.earlier;
            places = c.requires.places;
            entries = group_of (problem_leaving_out f params rules_now.bound rules_now.stop_rule) table place live.group c.requires.filled.is_table next.group;
            penalty_bounded = c.requires.penalty_bounded;
          });
      judged = c.judge-line.ensures.judged;
      best = subst (HasBest table params) same_live
          (c.requires.best (index - c.args.lives.now.first) live
          (from_first lives c.args.lives.now.first (index - c.args.lives.now.first) index live (omega (arith, inv.begun)) here));
      held = λ none. subst (λ (x : Live). AreOffers table x.group.place c.loop-waits.row.offers) same_live
          (offers_later table inv.low live.group.place c.loop-waits.row.offers next.later (inv.held none));
    }

pub keep_over_after-requires-clause-index_bounded : goal.keep_over_after-requires-clause-index_bounded
keep_over_after-requires-clause-index_bounded g c = omega (arith, (c.has_next.ensures.next c.loop-waits-test.true), c.loop-waits.invariant.end_is, c.loop-waits.invariant.count)

pub keep_group-kept-requires : goal.keep_group-kept-requires
keep_group-kept-requires g c =
    let items = c.loop-waits.lives.list.items in
    let live = c.index-live.result.now in
    let overfull = c.is_overfull-overfull.result in
    let within : c.loop-waits.index < length items = omega (arith, (c.has_next.ensures.next c.loop-waits-test.true), c.loop-waits.invariant.end_is, c.loop-waits.invariant.count) in
    let at_index = slice_get_read items (length items) c.loop-waits.index live refl within c.index-live.ensures in
    let kept : Live =
    record { group = live.group; over = kept_over live.over overfull (least_width c.judge-line.result.sums); best = live.best } in
    record {
      first_bounded = c.loop-waits.invariant.first_bounded;
      kept_bounded = c.loop-waits.invariant.kept_bounded;
      index_bounded = omega (arith, within, ap length (c.keep_over_after.ensures live at_index), length-set items c.loop-waits.index kept);
    }

pub leaves_out_overfull-left_out-requires-clause-overfull : goal.leaves_out_overfull-left_out-requires-clause-overfull
leaves_out_overfull-left_out-requires-clause-overfull g c = λ fits.
    let inv = c.loop-waits.invariant in
    let rules_now = c.args.at.rules.now in
    let f = g.M.Meter.facts c.args.meter.now in
    let table = c.args.at.table.now in
    let lives = c.args.lives.now.list.items in
    let index = c.loop-waits.index in
    let live = c.index-live.result.now in
    let within : index < length c.loop-waits.lives.list.items = omega (arith, (c.has_next.ensures.next c.loop-waits-test.true), inv.end_is, inv.count) in
    let here : slice_get lives index ≡ Some live =
    sym (inv.rest index (omega arith)) ∙ slice_get_read c.loop-waits.lives.list.items (length c.loop-waits.lives.list.items) index live refl within c.index-live.ensures in
    let both = next_live f rules_now.params.now rules_now.bound rules_now.stop_rule table c.args.at.place inv.at inv.low lives index live here inv.live in
    let next = both.0 in
    let params = rules_now.params.now in
    let rule = rules_now.stop_rule in
    let bound = rules_now.bound in
    let p = problem_leaving_out f params bound rule in
    let stop = stops_at f params rule in
    let groups = groups_of lives in
    let group = live.group in
    let h = g.M.Meter.facts c.loop-waits.meter in
    let sums = c.judge-line.result.sums in
    let is_sums = c.judge-line.ensures.sums ∙ c.try_line-sums.ensures.sums in
    let line = fits_of_sums params sums in
    let width = least_width sums in
    let overfull = c.is_overfull-overfull.result in
    let long = is_more live.over width in
    let first = c.args.lives.now.first in
    let there : slice_get (drop first lives) (index - first) ≡ Some live = from_first lives first (index - first) index live (omega (arith, inv.begun)) here in
    let over = c.requires.over (index - first) live there in
    let is_over : overfull ≡ is_overfull f params group.place c.args.at.place =
    c.is_overfull-overfull.ensures ∙ overfull_of f h params group.place c.args.at.place sums line refl is_sums inv.facts in
    let is_long_line : long ≡ is_long f params group.place c.args.at.place =
    long_found f h params group.place c.args.at.place sums live.over width long refl over refl
    is_sums inv.facts in
    ap (leaves_out rule) is_long_line
    ∙ none_left_out f params bound rule group.place c.args.at.place c.requires.may c.requires.last (sym is_over ∙ fits)

pub stops_after_overfull-stopped-requires : goal.stops_after_overfull-stopped-requires
stops_after_overfull-stopped-requires g c = λ fits.
    let inv = c.loop-waits.invariant in
    let rules_now = c.args.at.rules.now in
    let f = g.M.Meter.facts c.args.meter.now in
    let table = c.args.at.table.now in
    let lives = c.args.lives.now.list.items in
    let index = c.loop-waits.index in
    let live = c.index-live.result.now in
    let within : index < length c.loop-waits.lives.list.items = omega (arith, (c.has_next.ensures.next c.loop-waits-test.true), inv.end_is, inv.count) in
    let here : slice_get lives index ≡ Some live =
    sym (inv.rest index (omega arith)) ∙ slice_get_read c.loop-waits.lives.list.items (length c.loop-waits.lives.list.items) index live refl within c.index-live.ensures in
    let both = next_live f rules_now.params.now rules_now.bound rules_now.stop_rule table c.args.at.place inv.at inv.low lives index live here inv.live in
    let next = both.0 in
    let params = rules_now.params.now in
    let rule = rules_now.stop_rule in
    let bound = rules_now.bound in
    let p = problem_leaving_out f params bound rule in
    let stop = stops_at f params rule in
    let groups = groups_of lives in
    let group = live.group in
    let h = g.M.Meter.facts c.loop-waits.meter in
    let sums = c.judge-line.result.sums in
    let is_sums = c.judge-line.ensures.sums ∙ c.try_line-sums.ensures.sums in
    let line = fits_of_sums params sums in
    let width = least_width sums in
    let overfull = c.is_overfull-overfull.result in
    let long = is_more live.over width in
    let first = c.args.lives.now.first in
    let there : slice_get (drop first lives) (index - first) ≡ Some live = from_first lives first (index - first) index live (omega (arith, inv.begun)) here in
    let over = c.requires.over (index - first) live there in
    let is_over : overfull ≡ is_overfull f params group.place c.args.at.place =
    c.is_overfull-overfull.ensures ∙ overfull_of f h params group.place c.args.at.place sums line refl is_sums inv.facts in
    let is_long_line : long ≡ is_long f params group.place c.args.at.place =
    long_found f h params group.place c.args.at.place sums live.over width long refl over refl
    is_sums inv.facts in
    c.leaves_out_overfull-left_out.ensures ∙ ap (leaves_out rule) is_long_line
    ∙ none_left_out f params bound rule group.place c.args.at.place c.requires.may c.requires.last (sym is_over ∙ fits)

pub loop-waits-preserved : goal.loop-waits-preserved
loop-waits-preserved g c =
    let inv = c.loop-waits.invariant in
    let rules_now = c.args.at.rules.now in
    let f = g.M.Meter.facts c.args.meter.now in
    let table = c.args.at.table.now in
    let lives = c.args.lives.now.list.items in
    let index = c.loop-waits.index in
    let live = c.index-live.result.now in
    let within : index < length c.loop-waits.lives.list.items = omega (arith, (c.has_next.ensures.next c.loop-waits-test.true), inv.end_is, inv.count) in
    let here : slice_get lives index ≡ Some live =
    sym (inv.rest index (omega arith)) ∙ slice_get_read c.loop-waits.lives.list.items (length c.loop-waits.lives.list.items) index live refl within c.index-live.ensures in
    let both = next_live f rules_now.params.now rules_now.bound rules_now.stop_rule table c.args.at.place inv.at inv.low lives index live here inv.live in
    let next = both.0 in
    let params = rules_now.params.now in
    let rule = rules_now.stop_rule in
    let bound = rules_now.bound in
    let p = problem_leaving_out f params bound rule in
    let stop = stops_at f params rule in
    let groups = groups_of lives in
    let group = live.group in
    let h = g.M.Meter.facts c.loop-waits.meter in
    let sums = c.judge-line.result.sums in
    let is_sums = c.judge-line.ensures.sums ∙ c.try_line-sums.ensures.sums in
    let line = fits_of_sums params sums in
    let width = least_width sums in
    let overfull = c.is_overfull-overfull.result in
    let long = is_more live.over width in
    let first = c.args.lives.now.first in
    let there : slice_get (drop first lives) (index - first) ≡ Some live = from_first lives first (index - first) index live (omega (arith, inv.begun)) here in
    let over = c.requires.over (index - first) live there in
    let is_over : overfull ≡ is_overfull f params group.place c.args.at.place =
    c.is_overfull-overfull.ensures ∙ overfull_of f h params group.place c.args.at.place sums line refl is_sums inv.facts in
    let is_long_line : long ≡ is_long f params group.place c.args.at.place =
    long_found f h params group.place c.args.at.place sums live.over width long refl over refl
    is_sums inv.facts in
    let tried = line_leaving_out f h params bound rule group c.args.at.place c.args.at.penalty sums line c.leaves_out_overfull-left_out.result long
    c.requires.penalty refl is_sums inv.facts c.leaves_out_overfull-left_out.ensures is_long_line in
    let stopped : c.stops_after_overfull-stopped.result ≡ stops_after rule overfull long =
    c.stops_after_overfull-stopped.ensures ∙ ap (stops_after rule overfull) c.leaves_out_overfull-left_out.ensures ∙ stopped_is rule overfull long in
    let items = c.loop-waits.lives.list.items in
    let at_index = slice_get_read items (length items) index live refl within c.index-live.ensures in
    let next_over = kept_over live.over overfull width in
    let kept : Live = record { group = group; over = next_over; best = live.best } in
    let marked : c.keep_over_after.new.lives.items ≡ set items index kept = c.keep_over_after.ensures live at_index in
    let present : slice_get c.keep_over_after.new.lives.items index ≡ Some kept =
    ap (λ xs. slice_get xs index) marked ∙ get-set_same items index kept live at_index in
    let found = c.index.result.now in
    let inside : index < length c.keep_over_after.new.lives.items = slice_get_within c.keep_over_after.new.lives.items index kept present in
    let same_live : kept ≡ found =
    same_Some kept found (sym present ∙ slice_get_read c.keep_over_after.new.lives.items (length c.keep_over_after.new.lives.items) index found refl inside c.index.ensures) in
    let passed = c.loop-waits.lives.first in
    let old = drop passed (take c.loop-waits.kept items) in
    let new = drop c.keep_group-kept.new.lives.first (take c.keep_group-kept.result c.keep_group-kept.new.lives.list.items) in
    let same_front : take c.loop-waits.kept c.keep_over_after.new.lives.items ≡ take c.loop-waits.kept items =
    ap (take c.loop-waits.kept) marked ∙ take-set-le c.loop-waits.kept items index kept inv.kept_bounded in
    let made : new ≡ cond c.stops_after_overfull-stopped.result old (old ++ kept ∷ []) =
    c.keep_group-kept.ensures.front kept present ∙ ap (λ xs. cond c.stops_after_overfull-stopped.result (drop passed xs) (drop passed xs ++ kept ∷ [])) same_front in
    record {
      wide = c.offer_line-now.ensures.wide;
      facts = c.try_line-sums.ensures.facts ∙ inv.facts;
      swept = swept_more stop c.args.at.place inv.low group.place (g.M.Meter.trials c.args.meter.now) (g.M.Meter.trials c.loop-waits.meter)
          (g.M.Meter.trials c.try_line-sums.new.self) inv.swept inv.fresh next.later next.group.earlier next.not_stopped c.try_line-sums.ensures.counted
          c.try_line-sums.ensures.others;
      kept = kept_more group.place (g.M.Meter.trials c.args.meter.now) (g.M.Meter.trials c.loop-waits.meter) (g.M.Meter.trials c.try_line-sums.new.self) inv.kept
          c.try_line-sums.ensures.counted c.try_line-sums.ensures.others;
      tried = λ some. tried_first (groups_of (drop first lives)) (index - first) group (g.M.Meter.trials c.args.meter.now) (g.M.Meter.trials c.loop-waits.meter)
          (g.M.Meter.trials c.try_line-sums.new.self) (λ more. inv.tried (omega (arith, more))) inv.kept (group_at (drop first lives) (index - first) live there)
          c.try_line-sums.ensures.counted c.try_line-sums.ensures.others;
      at = group.end;
      low = group.place + 1;
      held = λ none. subst (λ (x : Live). AreOffers table (x.group.place + 1) c.offer_line-now.new.row.offers) (sym same_live) (c.offer_line-now.ensures.held none);
      fresh = fresh_more inv.low group.place (g.M.Meter.trials c.args.meter.now) (g.M.Meter.trials c.loop-waits.meter)
          (g.M.Meter.trials c.try_line-sums.new.self) inv.fresh next.later c.try_line-sums.ensures.others;
      live = both.1;
      row = subst (λ (x : Live). IsOfferingUnless c.leaves_out_overfull-left_out.result table params bound x.group c.args.at.place c.args.at.penalty line
          (row_at params.first_lines table c.args.at.place c.loop-waits.row) (row_at params.first_lines table c.args.at.place c.offer_line-now.new.row))
          (sym same_live) c.offer_line-now.ensures.row p refl next.group.since tried
          (row_silent p table c.args.at.place inv.at group.start (row_at params.first_lines table c.args.at.place c.loop-waits.row) next.gap c.requires.last next.silent inv.row);
      begun = omega (arith, inv.begun);
      first_bounded = c.keep_group-kept.ensures.first_bounded;
      kept_bounded = c.keep_group-kept.ensures.result_bounded;
      count = c.keep_group-kept.ensures.count ∙ ap length marked ∙ length-set items index kept ∙ inv.count;
      rest = λ k after. c.keep_group-kept.ensures.rest k (omega (arith, inv.kept_bounded)) ∙ ap (λ xs. slice_get xs k) marked
          ∙ get-set_other items index k kept (λ same. omega (arith, same)) ∙ inv.rest k (omega arith);
      front = front_more p stop table c.args.at.place c.args.at.place inv.at inv.low (groups_of old) (groups_of new) group c.stops_after_overfull-stopped.result inv.front next
          (goes_on f params rule group.place c.args.at.place overfull long c.stops_after_overfull-stopped.result stopped is_over is_long_line)
          (stopped_silent f params bound table c.args.at.place group rule overfull long c.stops_after_overfull-stopped.result stopped is_over is_long_line c.requires.may next.group)
          (groups_kept c.stops_after_overfull-stopped.result old new kept made);
      over = over_kept f params (c.args.at.place + 1) c.stops_after_overfull-stopped.result old new kept inv.over
          (over_found f h params group.place c.args.at.place sums live.over next_over width overfull next.group.earlier
          refl over is_over refl is_sums inv.facts)
          made;
      best = best_kept table params c.stops_after_overfull-stopped.result old new kept inv.best (c.requires.best (index - first) live there) made;
      index_bounded = omega (arith, c.has_next.ensures.next c.loop-waits-test.true);
      waits = λ is. later_loosest f h params bound group.place c.args.at.place sums (c.requires.waits (c.all_wait-waits.ensures.waits is))
          next.group.earlier c.requires.last is_sums inv.facts c.requires.uncounted (c.all_wait-waits.ensures.loosest is);
      begins = λ _. omega (arith, inv.begun);
      end_is = inv.end_is;
      untouched = λ none.
          let neither = c.either-offered.ensures none in
          same_rows c.args.row.now c.loop-waits.row c.offer_line-now.new.row (inv.untouched neither.0) (c.offer_line-now.ensures.untouched neither.1);
    }

pub loop-waits-init : goal.loop-waits-init
loop-waits-init g c =
    let f = g.M.Meter.facts c.args.meter.now in
    let rules_now = c.args.at.rules.now in
    let p = problem_leaving_out f rules_now.params.now rules_now.bound rules_now.stop_rule in
    let items = c.args.lives.now.list.items in
    let first = c.args.lives.now.first in
    let none : drop first (take first items) ≡ [] = none_between first items c.requires.first_bounded in
    let empty = row_none rules_now.params.now.first_lines c.args.at.table.now c.args.at.place c.args.row.now c.requires.empty in
    record {
      wide = ap length empty ∙ length-replicate (slots rules_now.params.now.first_lines) None;
      facts = refl;
      swept = λ a. inl (omega arith);
      kept = kept_none (g.M.Meter.trials c.args.meter.now);
      tried = λ some. absurd (omega (arith, some));
      at = 0;
      low = 0;
      held = offers_none rules_now.params.now.first_lines c.args.at.table.now 0 c.args.row.now c.requires.empty;
      fresh = λ a less. omega arith;
      live = subst (IsActive p (stops_at f rules_now.params.now rules_now.stop_rule) c.args.at.table.now c.args.at.place c.args.at.place 0 0)
          (sym (drop-map (λ (x : Live). x.group) first items)) c.requires.filled.is_active;
      row = subst (IsRow p c.args.at.table.now c.args.at.place 0) (sym empty) (row_empty p c.args.at.table.now c.args.at.place);
      begun = omega arith;
      first_bounded = omega arith;
      kept_bounded = omega arith;
      count = refl;
      rest = λ k less. refl;
      front = subst (λ xs. IsFront p (stops_at f rules_now.params.now rules_now.stop_rule) c.args.at.table.now c.args.at.place c.args.at.place 0 0 (groups_of xs)) (sym none)
          (λ rest free active. active);
      over = subst (AreOver f rules_now.params.now (c.args.at.place + 1)) (sym none) (λ k x there. absurd (cc));
      best = subst (HaveBest c.args.at.table.now rules_now.params.now) (sym none) (λ k x there. absurd (cc));
      index_bounded = omega (arith, c.len-end.ensures, c.requires.first_bounded);
      waits = λ is. absurd (cc);
      begins = λ is. absurd (cc);
      end_is = omega (arith, c.len-end.ensures);
      untouched = λ _. same_row c.args.row.now;
    }

pub offer_waiting-waiting-requires : goal.offer_waiting-waiting-requires
offer_waiting-waiting-requires g c =
    let inv = c.loop-waits.invariant in
    let f = g.M.Meter.facts c.args.meter.now in
    let rules_now = c.args.at.rules.now in
    let params = rules_now.params.now in
    let p = problem_leaving_out f params rules_now.bound rules_now.stop_rule in
    let stop = stops_at f params rules_now.stop_rule in
    let table = c.args.at.table.now in
    let now = c.loop-waits.lives.list.items in
    let waiting = rest_waits f params rules_now.bound rules_now.stop_rule table c.args.at.place inv.at inv.low c.args.lives.now.first c.loop-waits.index c.loop-waits.index
    c.args.lives.now.list.items now inv.begun refl inv.count inv.rest (ended_by c.loop-waits.index c.len-end.result (c.has_next.ensures.none c.loop-waits-test.false) inv.end_is inv.waits) c.requires.over c.requires.best inv.live in
    let slice : c.rest_of.result.now ≡ drop c.loop-waits.index now = c.rest_of.ensures ∙ ap (drop c.loop-waits.index) c.deref.ensures.value in
    record {
      can = record {
        wide = inv.wide;
        uncounted = λ some. waiting.uncounted (subst (λ xs. 0 < length xs) slice some);
        each = subst (CanAllWait 0 table c.args.at.place) (sym slice)
            (can_uncounted params.first_lines table c.args.at.place (drop c.loop-waits.index now) waiting.uncounted
            (can_wait p stop table c.args.at.place c.args.at.place inv.at inv.low (drop c.loop-waits.index now) c.requires.filled.is_table waiting.active));
        rising = subst AreRising (sym slice) (active_rising p stop table c.args.at.place c.args.at.place inv.at inv.low (drop c.loop-waits.index now) waiting.active);
        best = subst (HaveBest table params) (sym slice) waiting.best;
        places = c.requires.places;
      };
      penalty = c.requires.penalty_bounded;
      held = λ none. offers_later table inv.low c.args.at.place c.loop-waits.row.offers
          (low_within p stop table c.args.at.place c.args.at.place inv.at inv.low (groups_of (drop c.loop-waits.index now)) waiting.active) (inv.held none);
      next = subst (λ xs. AreOffersBefore table xs 0 c.loop-waits.row.offers) (sym slice)
          (λ live here. offers_later table inv.low live.group.place c.loop-waits.row.offers
          (first_later p stop table c.args.at.place c.args.at.place inv.at inv.low (drop c.loop-waits.index now) live waiting.active here)
          (inv.held (waiting.uncounted (omega (arith, slice_get_within (drop c.loop-waits.index now) 0 live here)))));
    }

pub remove_groups-requires : goal.remove_groups-requires
remove_groups-requires g c =
    let inv = c.loop-waits.invariant in
    record {
      kept_bounded = omega (arith, inv.kept_bounded, inv.index_bounded);
      next_bounded = omega (arith, inv.end_is, inv.count);
    }

pub returns-clause-row : goal.returns-clause-row
returns-clause-row g c =
    let inv = c.loop-waits.invariant in
    let f = g.M.Meter.facts c.args.meter.now in
    let rules_now = c.args.at.rules.now in
    let params = rules_now.params.now in
    let bound = rules_now.bound in
    let rule = rules_now.stop_rule in
    let p = problem_leaving_out f params bound rule in
    let stop = stops_at f params rule in
    let table = c.args.at.table.now in
    let place = c.args.at.place in
    let now = c.loop-waits.lives.list.items in
    let waiting = rest_waits f params bound rule table place inv.at inv.low c.args.lives.now.first c.loop-waits.index c.loop-waits.index
    c.args.lives.now.list.items now inv.begun refl inv.count inv.rest (ended_by c.loop-waits.index c.len-end.result (c.has_next.ensures.none c.loop-waits-test.false) inv.end_is inv.waits) c.requires.over c.requires.best inv.live in
    let slice : c.rest_of.result.now ≡ drop c.loop-waits.index now = c.rest_of.ensures ∙ ap (drop c.loop-waits.index) c.deref.ensures.value in
    let costs : CostLoosest p params bound (f.penalty place) place (groups_of (drop c.loop-waits.index now)) =
    costs_waiting f params bound rule table place place inv.at inv.low (groups_of (drop c.loop-waits.index now)) c.requires.may c.requires.last waiting.wait waiting.active in
    let old = row_at params.first_lines table place c.loop-waits.row in
    let new = row_at params.first_lines table place c.offer_waiting-waiting.new.row in
    let offered : IsOfferingWaiting table params bound (drop c.loop-waits.index now) place (f.penalty place) old new =
    subst (λ n. IsOfferingWaiting table params bound (drop c.loop-waits.index now) place n old new) c.requires.penalty
    (subst (λ xs. IsOfferingWaiting table params bound xs place c.args.at.penalty old new) slice c.offer_waiting-waiting.ensures.row) in
    offered p stop inv.at inv.low refl c.requires.last costs waiting.active inv.row

pub returns-clause-live : goal.returns-clause-live
returns-clause-live g c = λ free.
    let inv = c.loop-waits.invariant in
    let f = g.M.Meter.facts c.args.meter.now in
    let rules_now = c.args.at.rules.now in
    let params = rules_now.params.now in
    let bound = rules_now.bound in
    let rule = rules_now.stop_rule in
    let table = c.args.at.table.now in
    let place = c.args.at.place in
    let now = c.loop-waits.lives.list.items in
    let waiting = rest_waits f params bound rule table place inv.at inv.low c.args.lives.now.first c.loop-waits.index c.loop-waits.index
    c.args.lives.now.list.items now inv.begun refl inv.count inv.rest (ended_by c.loop-waits.index c.len-end.result (c.has_next.ensures.none c.loop-waits-test.false) inv.end_is inv.waits) c.requires.over c.requires.best inv.live in
    let first = c.loop-waits.lives.first in
    let within : c.loop-waits.kept ≤ length now = omega (arith, inv.kept_bounded, inv.index_bounded, inv.end_is, inv.count) in
    subst (λ xs. IsActive (problem_leaving_out f params bound rule) (stops_at f params rule) table (place + 1) place 0 0 (groups_of xs))
    (sym (both_parts first c.loop-waits.kept c.loop-waits.index now c.remove_groups.new.lives.items inv.first_bounded within c.remove_groups.ensures))
    (front_with_rest f params bound rule table place inv.at inv.low (drop first (take c.loop-waits.kept now)) (drop c.loop-waits.index now) c.requires.may c.requires.last
    free waiting inv.front)

pub returns-clause-over : goal.returns-clause-over
returns-clause-over g c =
    let inv = c.loop-waits.invariant in
    let f = g.M.Meter.facts c.args.meter.now in
    let rules_now = c.args.at.rules.now in
    let params = rules_now.params.now in
    let bound = rules_now.bound in
    let rule = rules_now.stop_rule in
    let table = c.args.at.table.now in
    let place = c.args.at.place in
    let now = c.loop-waits.lives.list.items in
    let waiting = rest_waits f params bound rule table place inv.at inv.low c.args.lives.now.first c.loop-waits.index c.loop-waits.index
    c.args.lives.now.list.items now inv.begun refl inv.count inv.rest (ended_by c.loop-waits.index c.len-end.result (c.has_next.ensures.none c.loop-waits-test.false) inv.end_is inv.waits) c.requires.over c.requires.best inv.live in
    let first = c.loop-waits.lives.first in
    let within : c.loop-waits.kept ≤ length now = omega (arith, inv.kept_bounded, inv.index_bounded, inv.end_is, inv.count) in
    subst (AreOver f params (place + 1))
    (sym (both_parts first c.loop-waits.kept c.loop-waits.index now c.remove_groups.new.lives.items inv.first_bounded within c.remove_groups.ensures))
    (over_with_rest f params bound rule table place inv.at inv.low (drop first (take c.loop-waits.kept now)) (drop c.loop-waits.index now) waiting inv.over)

pub returns-clause-best : goal.returns-clause-best
returns-clause-best g c =
    let inv = c.loop-waits.invariant in
    let f = g.M.Meter.facts c.args.meter.now in
    let rules_now = c.args.at.rules.now in
    let now = c.loop-waits.lives.list.items in
    let table = c.args.at.table.now in
    let waiting = rest_waits f rules_now.params.now rules_now.bound rules_now.stop_rule table c.args.at.place inv.at inv.low c.args.lives.now.first c.loop-waits.index c.loop-waits.index
    c.args.lives.now.list.items now inv.begun refl inv.count inv.rest (ended_by c.loop-waits.index c.len-end.result (c.has_next.ensures.none c.loop-waits-test.false) inv.end_is inv.waits) c.requires.over c.requires.best inv.live in
    let first = c.loop-waits.lives.first in
    let within : c.loop-waits.kept ≤ length now = omega (arith, inv.kept_bounded, inv.index_bounded, inv.end_is, inv.count) in
    subst (HaveBest table rules_now.params.now)
    (sym (both_parts first c.loop-waits.kept c.loop-waits.index now c.remove_groups.new.lives.items inv.first_bounded within c.remove_groups.ensures))
    (best_joined table rules_now.params.now (drop first (take c.loop-waits.kept now)) (drop c.loop-waits.index now) inv.best waiting.best)

pub returns-clause-tried : goal.returns-clause-tried
returns-clause-tried g c =
    let inv = c.loop-waits.invariant in
    first_tried_from c.args.lives.now.first c.loop-waits.index c.loop-waits.index c.args.lives.now.list.items (g.M.Meter.trials c.args.meter.now) (g.M.Meter.trials c.loop-waits.meter)
    inv.begun refl (ended_by c.loop-waits.index c.len-end.result (c.has_next.ensures.none c.loop-waits-test.false) inv.end_is inv.begins) inv.tried

pub returns-clause-untouched : goal.returns-clause-untouched
returns-clause-untouched g c = λ none.
    let neither = c.either.ensures none in
    same_rows c.args.row.now c.loop-waits.row c.offer_waiting-waiting.new.row (c.loop-waits.invariant.untouched neither.0)
    (c.offer_waiting-waiting.ensures.untouched neither.1)

pub returns-clause-first_bounded : goal.returns-clause-first_bounded
returns-clause-first_bounded g c =
    let inv = c.loop-waits.invariant in
    let now = c.loop-waits.lives.list.items in
    let within : c.loop-waits.kept ≤ length now = omega (arith, inv.kept_bounded, inv.index_bounded, inv.end_is, inv.count) in
    parts_long c.loop-waits.lives.first c.loop-waits.kept c.loop-waits.index now c.remove_groups.new.lives.items inv.first_bounded within c.remove_groups.ensures
