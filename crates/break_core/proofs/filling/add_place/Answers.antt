use Rattle.std.proofs.Common.{◌≡◌, ◌∙◌, ◌+◌, ◌++◌, [], length, length-append, ◌≤◌, ◌<◌, cond, false, refl, ap, sym, subst, rules, arith}
use Rattle.break_lines.specs.declared.group.ActiveGroup.{ActiveGroup}
use Rattle.break_lines.specs.Tables.{slots, IsRow, row_entries}
use Rattle.break_lines.specs.Legal.{is_forced}
use Rattle.break_core.specs.Private.Active.{stops_at, problem_leaving_out, groups_of, live_of, with_group, with_live, HasBest, HaveBest, IsActive, IsFilled}
use Rattle.break_core.specs.Private.Near.{HaveNeighbours}
use Rattle.break_core.specs.Private.Offers.{row_at, AreOffers, IsEmpty}
use Rattle.break_core.proofs.Active.{filled_more, filled_none}
use Rattle.break_core.proofs.Lives.{groups_put, over_put, best_put}
use Rattle.break_core.proofs.BestEntries.{best_longer}
use Rattle.break_core.proofs.Near.{near_longer}
use Rattle.break_core.proofs.Offers.{row_none, same_empty}
use Rattle.break_core.proofs.filling.add_place.Goals as goal

pub returns-clause-filled : goal.returns-clause-filled
returns-clause-filled g c =
    let f = g.M.Meter.facts c.args.meter.now in
    let rules_now = c.args.rules.now in
    let p = problem_leaving_out f rules_now.params.now rules_now.bound rules_now.stop_rule in
    let stop = stops_at f rules_now.params.now rules_now.stop_rule in
    let table = c.args.reached.now.table.items in
    let row = (row_at c.args.rules.now.params.now.first_lines c.args.reached.now.table.items c.args.place c.try_each_line-offered.new.row) in
    let lives = (live_of c.try_each_line-offered.new.lives) in
    let next = groups_of lives in
    let full : IsRow p table c.args.place (length table) row =
    subst (λ t. IsRow p t c.args.place (length t) (row_at c.args.rules.now.params.now.first_lines t c.args.place c.try_each_line-offered.new.row))
    c.deref.ensures.value c.try_each_line-offered.ensures.row in
    let active : is_forced (f.penalty c.args.place) ≡ false → IsActive p stop table (c.args.place + 1) c.args.place 0 0 next =
    λ free. subst (λ t. IsActive p stop t (c.args.place + 1) c.args.place 0 0 next) c.deref.ensures.value (c.try_each_line-offered.ensures.live free) in
    let held : c.move_row.new.table.items ≡ table ++ row_entries row =
    subst (λ n. c.move_row.new.table.items ≡ table ++ row_entries (row_at n table c.args.place c.try_each_line-offered.new.row)) c.get.ensures.value
    c.in_ok-move_row.ensures.table in
    let forced : c.is_forced-forced.result ≡ p.forced c.args.place =
    c.is_forced-forced.ensures ∙ ap is_forced c.place-breakpoint.ensures.penalty in
    let began : c.len-start.result ≡ length table = search rules in
    let ended : c.len.result ≡ length c.move_row.new.table.items = search rules in
    let group : ActiveGroup = record { place = c.args.place; start = c.len-start.result; end = c.len.result } in
    let made : groups_of (live_of c.add_entries.new.lives) ≡ with_group (cond (p.forced c.args.place) [] next) group =
    groups_put (p.forced c.args.place) lives (live_of c.add_entries.new.lives) c.in_ok-add_entries.ensures.groups.0
    (c.in_ok-add_entries.ensures.groups.4 ∙ ap (λ t. with_live (cond t [] lives) c.in_ok-add_entries.ensures.groups.0) forced)
    ∙ ap (with_group (cond (p.forced c.args.place) [] next)) c.in_ok-add_entries.ensures.groups.1 in
    let filled : IsFilled p stop (c.args.place + 1) (table ++ row_entries row) (groups_of (live_of c.add_entries.new.lives)) =
    filled_more p stop c.args.place table row (groups_of (live_of c.args.reached.now.live)) next (groups_of (live_of c.add_entries.new.lives)) group c.requires.first c.requires.filled full
    active refl began (ended ∙ ap length held) made in
    subst (λ t. IsFilled p stop (c.args.place + 1) t (groups_of (live_of c.add_entries.new.lives))) (sym held) filled

pub returns-clause-over : goal.returns-clause-over
returns-clause-over g c =
    let f = g.M.Meter.facts c.args.meter.now in
    let params = c.args.rules.now.params.now in
    let lives = (live_of c.try_each_line-offered.new.lives) in
    over_put f params c.args.place c.is_forced-forced.result lives (live_of c.add_entries.new.lives) c.in_ok-add_entries.ensures.groups.0 c.try_each_line-offered.ensures.over
    (ap (λ (x : ActiveGroup). x.place) c.in_ok-add_entries.ensures.groups.1) c.in_ok-add_entries.ensures.groups.2 c.in_ok-add_entries.ensures.groups.4

pub try_each_line-offered-requires-clause-best : goal.try_each_line-offered-requires-clause-best
try_each_line-offered-requires-clause-best g c = subst (λ t. HaveBest t c.args.rules.now.params.now (live_of c.args.reached.now.live)) (sym c.deref.ensures.value) c.requires.best

pub move_row-requires-clause-wide : goal.move_row-requires-clause-wide
move_row-requires-clause-wide g c =
    subst (λ n. length (row_at n c.args.reached.now.table.items c.args.place c.try_each_line-offered.new.row) ≡ slots n) (sym c.get.ensures.value)
    (subst (λ t. length (row_at c.args.rules.now.params.now.first_lines t c.args.place c.try_each_line-offered.new.row) ≡ slots c.args.rules.now.params.now.first_lines)
    c.deref.ensures.value c.try_each_line-offered.ensures.row.wide)

pub move_row-requires-clause-held : goal.move_row-requires-clause-held
move_row-requires-clause-held g c = λ none.
    subst (λ t. AreOffers t c.args.place c.try_each_line-offered.new.row.offers) c.deref.ensures.value
    (c.try_each_line-offered.ensures.held (sym c.get.ensures.value ∙ none))

pub returns-clause-empty : goal.returns-clause-empty
returns-clause-empty g c = subst (λ n. IsEmpty n c.move_row.new.row) c.get.ensures.value c.in_ok-move_row.ensures.empty

pub returns-clause-best : goal.returns-clause-best
returns-clause-best g c =
    let table = c.args.reached.now.table.items in
    let row = (row_at c.args.rules.now.params.now.first_lines c.args.reached.now.table.items c.args.place c.try_each_line-offered.new.row) in
    let lives = (live_of c.try_each_line-offered.new.lives) in
    let new = (live_of c.add_entries.new.lives) in
    let live = c.in_ok-add_entries.ensures.groups.0 in
    let params = c.args.rules.now.params.now in
    let held : c.move_row.new.table.items ≡ table ++ row_entries row =
    subst (λ n. c.move_row.new.table.items ≡ table ++ row_entries (row_at n table c.args.place c.try_each_line-offered.new.row)) c.get.ensures.value
    c.in_ok-move_row.ensures.table in
    let began : c.len-start.result ≡ length table = search rules in
    let ended : c.len.result ≡ length c.move_row.new.table.items = search rules in
    let start : live.group.start ≡ c.len-start.result = ap (λ (x : ActiveGroup). x.start) c.in_ok-add_entries.ensures.groups.1 in
    let end : live.group.end ≡ c.len.result = ap (λ (x : ActiveGroup). x.end) c.in_ok-add_entries.ensures.groups.1 in
    let rises : live.group.start ≤ live.group.end = omega (arith, start, end, began, ended, ap length held, length-append table (row_entries row)) in
    let before : HaveBest c.move_row.new.table.items params lives =
    subst (λ t. HaveBest t params lives) (sym held)
    (best_longer table (row_entries row) params lives (subst (λ t. HaveBest t params lives) c.deref.ensures.value c.try_each_line-offered.ensures.best)) in
    let is : live.group.start < live.group.end → HasBest c.move_row.new.table.items params live =
    λ some. subst (λ t. HasBest t params live) c.deref-4.ensures.value (c.in_ok-add_entries.ensures.groups.3 (omega (arith, some, start, end))) in
    best_put c.move_row.new.table.items params c.is_forced-forced.result lives new live before rises is c.in_ok-add_entries.ensures.groups.4

pub returns-then-is_passed_over-clause-filled : goal.returns-then-is_passed_over-clause-filled
returns-then-is_passed_over-clause-filled g c =
    let f = g.M.Meter.facts c.args.meter.now in
    let rules_now = c.args.rules.now in
    let p = problem_leaving_out f rules_now.params.now rules_now.bound rules_now.stop_rule in
    let stop = stops_at f rules_now.params.now rules_now.stop_rule in
    let table = c.args.reached.now.table.items in
    let row = (row_at c.args.rules.now.params.now.first_lines c.args.reached.now.table.items c.args.place c.try_each_line-offered.new.row) in
    let next = groups_of (live_of c.try_each_line-offered.new.lives) in
    let passed = c.is_passed_over.ensures c.if-is_passed_over.true in
    let full : IsRow p table c.args.place (length table) row =
    subst (λ t. IsRow p t c.args.place (length t) (row_at c.args.rules.now.params.now.first_lines t c.args.place c.try_each_line-offered.new.row))
    c.deref.ensures.value c.try_each_line-offered.ensures.row in
    let forced : c.is_forced-forced.result ≡ p.forced c.args.place =
    c.is_forced-forced.ensures ∙ ap is_forced c.place-breakpoint.ensures.penalty in
    let free : is_forced (f.penalty c.args.place) ≡ false = sym forced ∙ passed.1 in
    let active : IsActive p stop table (c.args.place + 1) c.args.place 0 0 next =
    subst (λ t. IsActive p stop t (c.args.place + 1) c.args.place 0 0 next) c.deref.ensures.value (c.try_each_line-offered.ensures.live free) in
    filled_none p stop c.args.place (slots rules_now.params.now.first_lines) table row (groups_of (live_of c.args.reached.now.live)) next c.requires.first
    c.requires.filled full (row_none rules_now.params.now.first_lines table c.args.place c.try_each_line-offered.new.row
    (same_empty rules_now.params.now.first_lines c.args.row.now c.try_each_line-offered.new.row (c.try_each_line-offered.ensures.untouched passed.0) c.requires.empty)) free
    active

pub returns-then-is_passed_over-clause-best : goal.returns-then-is_passed_over-clause-best
returns-then-is_passed_over-clause-best g c =
    subst (λ t. HaveBest t c.args.rules.now.params.now (live_of c.try_each_line-offered.new.lives)) c.deref.ensures.value c.try_each_line-offered.ensures.best

pub returns-then-is_passed_over-clause-empty : goal.returns-then-is_passed_over-clause-empty
returns-then-is_passed_over-clause-empty g c =
    let passed = c.is_passed_over.ensures c.if-is_passed_over.true in
    same_empty c.args.rules.now.params.now.first_lines c.args.row.now c.try_each_line-offered.new.row (c.try_each_line-offered.ensures.untouched passed.0)
    c.requires.empty

pub try_each_line-offered-requires-clause-known : goal.try_each_line-offered-requires-clause-known
try_each_line-offered-requires-clause-known g c =
    subst (λ t. HaveNeighbours t c.deref-2.result.now) (sym c.deref.ensures.value)
    (subst (HaveNeighbours c.args.reached.now.table.items) (sym c.deref-2.ensures.value) c.requires.known)

pub keep_neighbours-requires-clause-known : goal.keep_neighbours-requires-clause-known
keep_neighbours-requires-clause-known g c =
    let table = c.args.reached.now.table.items in
    let list = c.args.reached.now.neighbours.items in
    let row = row_at c.args.rules.now.params.now.first_lines table c.args.place c.try_each_line-offered.new.row in
    let held : c.move_row.new.table.items ≡ table ++ row_entries row =
    subst (λ n. c.move_row.new.table.items ≡ table ++ row_entries (row_at n table c.args.place c.try_each_line-offered.new.row)) c.get.ensures.value
    c.in_ok-move_row.ensures.table in
    subst (λ t. HaveNeighbours t list) (sym (c.deref-3.ensures.value ∙ held)) (near_longer table (row_entries row) list c.requires.known)

pub returns-clause-known : goal.returns-clause-known
returns-clause-known g c = subst (λ t. HaveNeighbours t c.keep_neighbours.new.list.items) c.deref-3.ensures.value c.in_ok-keep_neighbours.ensures
