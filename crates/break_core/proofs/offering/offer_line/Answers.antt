use Rattle.std.proofs.Common.{◌≡◌, ◌∙◌, ◌+◌, to_z, of_z, w32, ap, sym, subst, arith}
use Rattle.std.proofs.lemmas.Int.{ints}
use Rattle.break_lines.specs.Costs.{line_alone}
use Rattle.break_core.specs.declared.row.Row.{Row}
use Rattle.break_lines.specs.Sizes.{fits_of_sums}
use Rattle.break_core.specs.Private.Filling.{IsOf}
use Rattle.break_core.proofs.BestOffers.{best_line, none_line}
use Rattle.break_core.specs.Private.Offers.{row_at}
use Rattle.break_core.proofs.Offers.{row_wide, same_row, offers_later}
use Rattle.break_core.proofs.BestEntries.{best_in_row}
use Rattle.break_core.proofs.Stopping.{row_left_out}
use Rattle.break_core.proofs.offering.offer_line.Goals as goal

pub admitted_alone-requires-clause-penalty : goal.admitted_alone-requires-clause-penalty
admitted_alone-requires-clause-penalty c = omega (arith, ints, c.requires.can.penalty_bounded)

pub offer_best-requires-clause-entries : goal.offer_best-requires-clause-entries
offer_best-requires-clause-entries c =
    let none : c.args.at.now.rules.now.params.now.first_lines ≡ 0 = c.requires.uncounted in
    subst (λ n. IsOf n c.args.at.now.table.now c.args.live.now.group) none c.requires.can.entries

pub offer_best-requires-clause-best : goal.offer_best-requires-clause-best
offer_best-requires-clause-best c = c.requires.best c.requires.uncounted

pub offer_best-requires-clause-held : goal.offer_best-requires-clause-held
offer_best-requires-clause-held c = c.requires.held c.requires.uncounted

pub returns-then-left_out-clause-row : goal.returns-then-left_out-clause-row
returns-then-left_out-clause-row c =
    row_left_out c.args.left_out c.args.at.now.table.now c.args.at.now.rules.now.params.now c.args.at.now.rules.now.bound c.args.live.now.group c.args.at.now.place c.args.at.now.penalty
    (fits_of_sums c.args.at.now.rules.now.params.now c.args.line.now.sums) (row_at c.args.at.now.rules.now.params.now.first_lines c.args.at.now.table.now c.args.at.now.place c.args.row.now) c.if-left_out.true c.requires.can.rises c.requires.can.entries

pub returns-then-left_out-clause-wide : goal.returns-then-left_out-clause-wide
returns-then-left_out-clause-wide c = c.requires.can.wide

pub returns-in_default-clause-row : goal.returns-in_default-clause-row
returns-in_default-clause-row c =
    let rules = c.args.at.now.rules.now in
    let at = c.args.at.now in
    let none : rules.params.now.first_lines ≡ 0 = c.requires.uncounted in
    let penalty : to_z w32 (of_z w32 at.penalty) ≡ at.penalty = omega (arith, ints) in
    none_line c.args.left_out c.args.at.now.table.now rules.params.now rules.bound c.args.live.now.group at.place at.penalty c.args.line.now.sums (row_at c.args.at.now.rules.now.params.now.first_lines c.args.at.now.table.now c.args.at.now.place c.args.row.now) none c.if-left_out.false
    (sym c.in_default.is ∙ c.admitted_alone.ensures.value ∙ ap (λ x. line_alone rules.params.now rules.bound x c.args.line.now.fit) penalty
    ∙ ap (line_alone rules.params.now rules.bound at.penalty) c.requires.judged.fit)
    c.requires.can.rises c.requires.can.entries

pub returns-in_default-clause-wide : goal.returns-in_default-clause-wide
returns-in_default-clause-wide c = c.requires.can.wide

pub returns-clause-row : goal.returns-clause-row
returns-clause-row c =
    let at = c.args.at.now in
    let rules = at.rules.now in
    let params = rules.params.now in
    let table = at.table.now in
    let none : params.first_lines ≡ 0 = c.requires.uncounted in
    let penalty : to_z w32 (of_z w32 at.penalty) ≡ at.penalty = omega (arith, ints) in
    let now : Row = record { offers = c.offer_best.new.offers; counted = c.args.row.now.counted } in
    best_line c.args.left_out table params rules.bound c.args.live.now.group at.place at.penalty c.args.line.now.sums c.in-Some.alone
    (row_at params.first_lines table at.place c.args.row.now) (row_at params.first_lines table at.place now) none c.if-left_out.false
    (sym c.in-Some.is ∙ c.admitted_alone.ensures.value ∙ ap (λ x. line_alone params rules.bound x c.args.line.now.fit) penalty
    ∙ ap (line_alone params rules.bound at.penalty) c.requires.judged.fit)
    (best_in_row params.first_lines table params c.args.live.now.group at.place c.in-Some.alone c.args.row.now now none c.offer_best.ensures.row)

pub returns-clause-wide : goal.returns-clause-wide
returns-clause-wide c =
    let at = c.args.at.now in
    let params = at.rules.now.params.now in
    let none : params.first_lines ≡ 0 = c.requires.uncounted in
    let now : Row = record { offers = c.offer_best.new.offers; counted = c.args.row.now.counted } in
    row_wide params.first_lines at.table.now at.place now none c.offer_best.ensures.wide

pub returns-clause-held : goal.returns-clause-held
returns-clause-held c = λ _. c.offer_best.ensures.held

pub returns-then-left_out-clause-untouched : goal.returns-then-left_out-clause-untouched
returns-then-left_out-clause-untouched c = λ _. same_row c.args.row.now

pub returns-in_default-clause-untouched : goal.returns-in_default-clause-untouched
returns-in_default-clause-untouched c = λ _. same_row c.args.row.now

pub returns-then-left_out-clause-held : goal.returns-then-left_out-clause-held
returns-then-left_out-clause-held c = λ none.
    offers_later c.args.at.now.table.now c.args.live.now.group.place (c.args.live.now.group.place + 1) c.args.row.now.offers (omega arith) (c.requires.held none)

pub returns-in_default-clause-held : goal.returns-in_default-clause-held
returns-in_default-clause-held c = λ none.
    offers_later c.args.at.now.table.now c.args.live.now.group.place (c.args.live.now.group.place + 1) c.args.row.now.offers (omega arith) (c.requires.held none)
