use Rattle.std.proofs.Common.{length, refl, ◌≡◌, ◌∙◌, to_z, of_z, w32, sym, subst, arith}
use Rattle.std.proofs.lemmas.Int.{ints}
use Rattle.break_core.specs.Private.Active.{IsOfferingWaiting}
use Rattle.break_core.specs.Private.Offers.{row_at}
use Rattle.break_core.proofs.Lives.{no_groups}
use Rattle.break_core.proofs.Offers.{same_row}
use Rattle.break_core.proofs.Waiting.{no_group_waits, none_offered_waiting, offered_waiting}
use Rattle.break_core.proofs.offering.offer_waiting.Goals as goal

pub line_alone-requires-clause-penalty : goal.line_alone-requires-clause-penalty
line_alone-requires-clause-penalty c = omega (arith, ints, c.requires.penalty)

pub returns-in_default-clause-row : goal.returns-in_default-clause-row
returns-in_default-clause-row c =
    let rules_now = c.args.at.now.rules.now in
    let penalty : to_z w32 (of_z w32 c.args.at.now.penalty) ≡ c.args.at.now.penalty = omega (arith, ints) in
    subst (λ n. IsOfferingWaiting c.args.at.now.table.now rules_now.params.now rules_now.bound c.args.lives.now c.args.at.now.place n (row_at c.args.at.now.rules.now.params.now.first_lines c.args.at.now.table.now c.args.at.now.place c.args.row.now) (row_at c.args.at.now.rules.now.params.now.first_lines c.args.at.now.table.now c.args.at.now.place c.args.row.now))
    penalty
    (none_offered_waiting c.args.at.now.table.now rules_now.params.now rules_now.bound c.args.lives.now c.args.at.now.place (to_z w32 (of_z w32 c.args.at.now.penalty))
    (row_at c.args.at.now.rules.now.params.now.first_lines c.args.at.now.table.now c.args.at.now.place c.args.row.now) (sym (sym c.in_default.is ∙ c.line_alone.ensures.value)))

pub returns-clause-row : goal.returns-clause-row
returns-clause-row c =
    let rules_now = c.args.at.now.rules.now in
    let params = rules_now.params.now in
    let table = c.args.at.now.table.now in
    let lives = c.args.lives.now in
    let old = (row_at c.args.at.now.rules.now.params.now.first_lines c.args.at.now.table.now c.args.at.now.place c.args.row.now) in
    let new = (row_at c.args.at.now.rules.now.params.now.first_lines c.args.at.now.table.now c.args.at.now.place c.offer_each_waiting.new.row) in
    let penalty : to_z w32 (of_z w32 c.args.at.now.penalty) ≡ c.args.at.now.penalty = omega (arith, ints) in
    subst (λ n. IsOfferingWaiting table params rules_now.bound lives c.args.at.now.place n old new) penalty
    (offered_waiting table params rules_now.bound lives c.args.at.now.place (to_z w32 (of_z w32 c.args.at.now.penalty)) c.in-Some.alone old new
    (sym c.in-Some.is ∙ c.line_alone.ensures.value) c.offer_each_waiting.ensures.row)

pub returns-then-is_empty-clause-row : goal.returns-then-is_empty-clause-row
returns-then-is_empty-clause-row c =
    let lives = c.args.lives.now in
    no_group_waits c.args.at.now.table.now c.args.at.now.rules.now.params.now c.args.at.now.rules.now.bound lives c.args.at.now.place c.args.at.now.penalty (row_at c.args.at.now.rules.now.params.now.first_lines c.args.at.now.table.now c.args.at.now.place c.args.row.now)
    (no_groups lives (length lives) (sym c.is_empty.ensures ∙ c.if-is_empty.true) refl)

pub returns-in_default-clause-untouched : goal.returns-in_default-clause-untouched
returns-in_default-clause-untouched c = λ _. same_row c.args.row.now

pub returns-then-is_empty-clause-untouched : goal.returns-then-is_empty-clause-untouched
returns-then-is_empty-clause-untouched c = λ _. same_row c.args.row.now
